use Rattle.ats_lists.proofs.ChainBinding.{link-own, node-own}
use Rattle.ats_lists.proofs.ChainLaws.{strings-only}
use Rattle.ats_lists.proofs.chain_laws.chain_strings_have_numbers.Goals as goal

pub returns-clause-block : goal.returns-clause-block
returns-clause-block g c = link-own g.H.HashKind.hash

pub returns-clause-node : goal.returns-clause-node
returns-clause-node g c = node-own g.H.HashKind.hash

pub returns-clause-only : goal.returns-clause-only
returns-clause-only g c = strings-only g.H.HashKind.hash

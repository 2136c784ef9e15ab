use Rattle.ats_lists.proofs.ChainLaws.{elided-few, first-rebuilds, first-own}
use Rattle.ats_lists.proofs.chain_laws.first_leaves_suffice.Goals as goal

pub returns-clause-few : goal.returns-clause-few
returns-clause-few g c = elided-few g.H.HashKind.hash

pub returns-clause-rebuild : goal.returns-clause-rebuild
returns-clause-rebuild g c = first-rebuilds g.H.HashKind.hash

pub returns-clause-own : goal.returns-clause-own
returns-clause-own g c = first-own g.H.HashKind.hash

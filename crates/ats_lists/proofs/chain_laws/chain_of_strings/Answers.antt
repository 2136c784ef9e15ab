use Rattle.ats_lists.proofs.ChainLaws.{chain-one, chain-more}
use Rattle.ats_lists.proofs.chain_laws.chain_of_strings.Goals as goal

pub returns-clause-one : goal.returns-clause-one
returns-clause-one g c = chain-one g.H.HashKind.hash

pub returns-clause-more : goal.returns-clause-more
returns-clause-more g c = chain-more g.H.HashKind.hash

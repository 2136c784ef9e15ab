use Rattle.ats_honest.proofs.Exists.{cut_shown_exists}
use Rattle.ats_honest.proofs.OneProof.{one_cut_shown}
use Rattle.ats_honest.proofs.laws.cuts_have_one_proof.Goals as goal

pub returns-clause-exists : goal.returns-clause-exists
returns-clause-exists g c = cut_shown_exists g.H.HashKind.hash

pub returns-clause-one : goal.returns-clause-one
returns-clause-one g c = one_cut_shown g.H.HashKind.hash

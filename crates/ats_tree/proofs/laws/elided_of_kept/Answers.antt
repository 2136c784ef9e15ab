use Rattle.ats_tree.proofs.KeptElided.{kept-elided}
use Rattle.ats_tree.proofs.laws.elided_of_kept.Goals as goal

pub returns : goal.returns
returns g c leaves ps some = kept-elided g.H.HashKind.hash leaves ps some

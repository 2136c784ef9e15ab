use Rattle.ats_lists.proofs.FormatLemmas.{list-bound}
use Rattle.ats_lists.proofs.format_laws.first_leaves_are_bound.Goals as goal

pub returns : goal.returns
returns g c = list-bound g.H.HashKind.hash g.H.HashKind.sized

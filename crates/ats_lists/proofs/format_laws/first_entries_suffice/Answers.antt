use Rattle.ats_lists.proofs.FormatLaws.{front-few, front-own, front-rebuilds, front-sized}
use Rattle.ats_lists.proofs.format_laws.first_entries_suffice.Goals as goal

pub returns-clause-few : goal.returns-clause-few
returns-clause-few g c = front-few g.H.HashKind.hash

pub returns-clause-sized : goal.returns-clause-sized
returns-clause-sized g c = front-sized g.H.HashKind.hash g.H.HashKind.sized

pub returns-clause-rebuild : goal.returns-clause-rebuild
returns-clause-rebuild g c = front-rebuilds g.H.HashKind.hash

pub returns-clause-own : goal.returns-clause-own
returns-clause-own g c = front-own g.H.HashKind.hash

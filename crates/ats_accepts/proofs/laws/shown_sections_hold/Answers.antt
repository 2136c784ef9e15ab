use Rattle.ats_accepts.proofs.AcceptedCut.{section_rules_hold}
use Rattle.ats_accepts.proofs.laws.shown_sections_hold.Goals as goal

pub returns : goal.returns
returns g c archive query algorithm cut documents proof some is_cut are_met is =
    section_rules_hold g.H.HashKind.hash archive query algorithm cut documents proof is_cut are_met is some

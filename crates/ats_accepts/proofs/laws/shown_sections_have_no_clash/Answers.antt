use Rattle.ats_accepts.proofs.HonestStrings.{shown_own, shown_unclashing}
use Rattle.ats_accepts.proofs.laws.shown_sections_have_no_clash.Goals as goal

pub returns-clause-ours : goal.returns-clause-ours
returns-clause-ours g c = shown_own g.H.HashKind.hash

pub returns-clause-none : goal.returns-clause-none
returns-clause-none g c = shown_unclashing g.H.HashKind.hash

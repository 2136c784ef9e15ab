use Rattle.ats_text_check.proofs.Refusals.{one_refusal, not_refused}
use Rattle.ats_text_check.proofs.laws.texts_have_one_refusal.Goals as goal

pub returns : goal.returns
returns g c = record { one = one_refusal g.H.HashKind.hash; none = not_refused g.H.HashKind.hash }

use Rattle.ats_text_check.proofs.Fields.{in_range}
use Rattle.ats_text_check.proofs.Own.{own_or_collides}
use Rattle.ats_text_check.proofs.laws.accepted_texts_are_own.Goals as goal

pub returns : goal.returns
returns g c root doc bytes proof says accepts = own_or_collides g.H.HashKind.hash g.H.HashKind.sized root doc proof (in_range bytes proof says) accepts

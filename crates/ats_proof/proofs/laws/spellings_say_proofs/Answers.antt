use Rattle.ats_proof.proofs.Whole.{whole}
use Rattle.ats_proof.proofs.laws.spellings_say_proofs.Goals as goal

pub returns : goal.returns
returns c = λ bytes fields small spells. (whole bytes small (record { fields = fields; spells = spells })).is

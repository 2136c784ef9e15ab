use Rattle.std.proofs.Common.{refl}
use Rattle.ats_proof.proofs.SharedFields.{digests_are}
use Rattle.ats_proof.proofs.digests.DigestRun.of.Goals as goal

pub returns : goal.returns
returns c = record { digests = λ count all are. digests_are c.args.bytes.now _ count all refl are }

use Rattle.std.proofs.Common.{sym}
use Rattle.ats_proof.specs.Reading.{digest_size, digest_in}
use Rattle.ats_proof.proofs.Runs.{length-parts}
use Rattle.ats_proof.proofs.digests.DigestRun.len.Goals as goal

pub returns : goal.returns
returns c = sym (length-parts digest_size digest_in c.args.self.now.left c.args.self.now.bytes.now)

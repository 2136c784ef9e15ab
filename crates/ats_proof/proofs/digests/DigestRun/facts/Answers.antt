use Rattle.ats_proof.proofs.Taking.{digests-sized}
use Rattle.ats_proof.proofs.digests.DigestRun.facts.Goals as goal

pub returns : goal.returns
returns c = digests-sized c.args.self.now.left c.args.self.now.bytes.now c.args.self.now.fits

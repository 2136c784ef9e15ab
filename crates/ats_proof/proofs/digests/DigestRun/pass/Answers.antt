use Rattle.std.proofs.Common.{◌<◌, refl, arith}
use Rattle.ats_proof.specs.Reading.{digest_size, digest_in}
use Rattle.ats_proof.proofs.Taking.{parts_more}
use Rattle.ats_proof.proofs.digests.DigestRun.pass.Goals as goal

pub returns-clause-first : goal.returns-clause-first
returns-clause-first c =
    let some : 0 < c.args.self.now.left = omega (arith, c.if-self-eq0.false) in
    rw (c.split_at.ensures.front, parts_more digest_size digest_in c.args.self.now.left c.args.self.now.bytes.now some) refl

pub returns-clause-passed : goal.returns-clause-passed
returns-clause-passed c =
    let some : 0 < c.args.self.now.left = omega (arith, c.if-self-eq0.false) in
    rw (c.split_at.ensures.back, parts_more digest_size digest_in c.args.self.now.left c.args.self.now.bytes.now some) refl

use Rattle.std.proofs.Common.{refl}
use Rattle.ats_proof.specs.Reading.{leaf_size}
use Rattle.ats_proof.specs.Runs.{leaf_in}
use Rattle.ats_proof.proofs.Taking.{parts_more, rest_fits}
use Rattle.ats_proof.proofs.Cutting.{rest_rises}
use Rattle.ats_proof.proofs.leaves.LeafRun.pass.Goals as goal

pub invariant_of-self : goal.invariant_of-self
invariant_of-self c =
    let run = c.args.self.now in
    record {
      fits = rw c.first-first.ensures.rest (rest_fits (leaf_size run.after_term) run.left run.bytes.now c.requires.left run.fits);
      rises = rw c.first-first.ensures.rest (rest_rises run.after_term run.left run.bytes.now c.requires.left run.rises);
    }

pub returns-clause-passed : goal.returns-clause-passed
returns-clause-passed c =
    let run = c.args.self.now in
    rw (c.first-first.ensures.rest, parts_more (leaf_size run.after_term) (leaf_in run.after_term) run.left run.bytes.now c.requires.left) refl

use Rattle.std.proofs.Common.{length, arith}
use Rattle.ats_bound.specs.Floors.{floors_of_share}
use Rattle.ats_proof.specs.declared.record.Algorithm.TheVariants.{Tra}
use Rattle.ats_honest.specs.Honest.{IsHonestShare}
use Rattle.ats_prover.proofs.Ended.{one_within}
use Rattle.ats_prover.proofs.Finished.{IsFinished, finished, size_beyond, size_within, spelled}
use Rattle.ats_prover.proofs.proving.prove_share_within.Given
use Rattle.ats_prover.proofs.proving.prove_share_within.Goals as goal

finished_ok : (g : Given.Over) (c : goal.In-Ok g) → IsFinished (IsHonestShare g.H.HashKind.hash c.args.index.now c.args.query.now c.args.share) c.args.limit c.write_share.new.writer
finished_ok g c =
    finished (IsHonestShare g.H.HashKind.hash c.args.index.now c.args.query.now c.args.share) (one_within g.H.HashKind.hash c.args.index.now c.args.query.now (floors_of_share c.args.share) Tra) c.records_are_joined.ensures
    c.args.limit _ c.write_share.new.writer c.new-writer.ensures.made (rw c.if-not-branch.false at c.in_ok-write_share.ensures)

finished_err : (g : Given.Over) (c : goal.In-Err g) → IsFinished (IsHonestShare g.H.HashKind.hash c.args.index.now c.args.query.now c.args.share) c.args.limit c.write_share.new.writer
finished_err g c =
    finished (IsHonestShare g.H.HashKind.hash c.args.index.now c.args.query.now c.args.share) (one_within g.H.HashKind.hash c.args.index.now c.args.query.now (floors_of_share c.args.share) Tra) c.records_are_joined.ensures
    c.args.limit _ c.write_share.new.writer c.new-writer.ensures.made (rw c.if-not-branch.false at c.in_ok-write_share.ensures)

pub returns-in-Ok-clause-size : goal.returns-in-Ok-clause-size
returns-in-Ok-clause-size g c proof such = size_within (finished_ok g c) proof such (length c.in-Ok.bytes) c.in-Ok.ensures.number c.in-Ok.ensures.within

pub returns-in-Err-clause-size : goal.returns-in-Err-clause-size
returns-in-Err-clause-size g c proof such = size_beyond (finished_err g c) proof such c.in-Err.length c.in-Err.ensures.asked c.in-Err.ensures.beyond

pub returns-in-Ok-clause-ok : goal.returns-in-Ok-clause-ok
returns-in-Ok-clause-ok g c =
    let is = finished_ok g c in
    let size = returns-in-Ok-clause-size g c is.written.proof is.written.such in
    record { proof = is.written.proof; honest = is.written.such; spells = spelled is c.in-Ok.bytes c.in-Ok.ensures.whole (omega (arith, size, c.requires.limit)) }

-- there is no such proof
pub returns-then-not-branch-clause-size : goal.returns-then-not-branch-clause-size
returns-then-not-branch-clause-size g c = rw c.if-not-branch.true at c.in_ok-write_share.ensures

use Rattle.std.proofs.Common.{length, arith}
use Rattle.ats_honest.specs.Honest.{IsCutShown}
use Rattle.ats_honest.proofs.Public.{one_cut_shown}
use Rattle.ats_prover.proofs.Finished.{IsFinished, finished, size_beyond, size_within, spelled}
use Rattle.ats_prover.proofs.proving.prove_cut_within.Given
use Rattle.ats_prover.proofs.proving.prove_cut_within.Goals as goal

finished_ok : (g : Given.Over) (c : goal.In-Ok g) → IsFinished (IsCutShown g.H.HashKind.hash c.args.index.now c.args.query.now c.args.algorithm c.args.cut.now) c.args.limit c.write_unanswered.new.writer
finished_ok g c =
    finished (IsCutShown g.H.HashKind.hash c.args.index.now c.args.query.now c.args.algorithm c.args.cut.now) (one_cut_shown g.H.HashKind.hash c.args.index.now c.args.query.now c.args.algorithm c.args.cut.now) c.records_are_joined.ensures
    c.args.limit _ c.write_unanswered.new.writer c.new-writer.ensures.made c.in_ok-write_unanswered.ensures

finished_err : (g : Given.Over) (c : goal.In-Err g) → IsFinished (IsCutShown g.H.HashKind.hash c.args.index.now c.args.query.now c.args.algorithm c.args.cut.now) c.args.limit c.write_unanswered.new.writer
finished_err g c =
    finished (IsCutShown g.H.HashKind.hash c.args.index.now c.args.query.now c.args.algorithm c.args.cut.now) (one_cut_shown g.H.HashKind.hash c.args.index.now c.args.query.now c.args.algorithm c.args.cut.now) c.records_are_joined.ensures
    c.args.limit _ c.write_unanswered.new.writer c.new-writer.ensures.made c.in_ok-write_unanswered.ensures

pub returns-in-Ok-clause-size : goal.returns-in-Ok-clause-size
returns-in-Ok-clause-size g c proof such = size_within (finished_ok g c) proof such (length c.in-Ok.bytes) c.in-Ok.ensures.number c.in-Ok.ensures.within

pub returns-in-Err-clause-size : goal.returns-in-Err-clause-size
returns-in-Err-clause-size g c proof such = size_beyond (finished_err g c) proof such c.in-Err.length c.in-Err.ensures.asked c.in-Err.ensures.beyond

pub returns-in-Ok-clause-ok : goal.returns-in-Ok-clause-ok
returns-in-Ok-clause-ok g c =
    let is = finished_ok g c in
    let size = returns-in-Ok-clause-size g c is.written.proof is.written.such in
    record { proof = is.written.proof; shows = is.written.such; spells = spelled is c.in-Ok.bytes c.in-Ok.ensures.whole (omega (arith, size, c.requires.limit)) }

use Rattle.std.proofs.Common.{◌≡◌, ℕ, ◌<◌, arith, subst}
use Rattle.std.proofs.lemmas.Result.{err_from_is_err_and}
use Rattle.ats_grammar.proofs.Runs.{IsInRun, run_start, run_more, run_fault, run_passes, run_digests}
use Rattle.ats_grammar.proofs.reader.Reader.digests.Goals as goal

pub loop-init : goal.loop-init
loop-init c = run_start c.args.count c.args.self.now

pub loop-preserved : goal.loop-preserved
loop-preserved c =
    let below : c.loop.counter < c.args.count = omega arith in
    run_more c.args.count c.loop.counter c.args.self.now c.loop.reader c.bytes.new.self c.in_ok-bytes.field-0.now below c.loop.invariant
    c.in_ok-bytes.ensures.read c.in_ok-bytes.ensures.size c.in_ok-bytes.ensures.parts

pub returns-in_err-bytes-clause-refused : goal.returns-in_err-bytes-clause-refused
returns-in_err-bytes-clause-refused c =
    let below : c.loop.counter < c.args.count = omega arith in
    let told = err_from_is_err_and c.from_residual.result c.from_residual.ensures.1 in
    rw (told.1, told.2) (run_fault c.args.count c.loop.counter c.args.self.now c.loop.reader c.in_err-bytes.field-0.0 below c.loop.invariant c.in_err-bytes.ensures.refused)

pub returns-clause-read : goal.returns-clause-read
returns-clause-read c =
    let whole : c.loop.counter ≡ c.args.count = omega arith in
    let run : IsInRun c.args.count c.args.count c.args.self.now c.loop.reader =
    subst (λ (i : ℕ). IsInRun c.args.count i c.args.self.now c.loop.reader) whole c.loop.invariant in (
      run.taken,
      run_digests c.args.count c.args.self.now c.loop.reader run c.split_at.result.0.now c.split_at.ensures.front,
      run_passes c.args.count c.args.count c.args.self.now c.loop.reader run (omega arith),
    )

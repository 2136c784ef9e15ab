use Rattle.std.proofs.Common.{◌≡◌, ◌<◌, arith}
use Rattle.std.proofs.lemmas.Result.{err_from_is_err_and}
use Rattle.ats_catalog_bytes.proofs.Passing.{none_passed, one_passed, one_fails, all_passed}
use Rattle.ats_catalog_bytes.proofs.view.pass_proofs.Goals as goal

pub loop-init : goal.loop-init
loop-init c = none_passed c.args.count c.args.reader.now

pub loop-preserved : goal.loop-preserved
loop-preserved c =
    let below : c.loop.counter < c.args.count = omega arith in
    one_passed c.args.count c.loop.counter c.args.reader.now c.loop.reader c.pass_proof.new.reader below c.loop.invariant c.in_ok-pass_proof.ensures.read

pub returns-in_err-pass_proof-clause-refused : goal.returns-in_err-pass_proof-clause-refused
returns-in_err-pass_proof-clause-refused c =
    let below : c.loop.counter < c.args.count = omega arith in
    let told = err_from_is_err_and c.from_residual.result c.from_residual.ensures.1 in
    rw (told.1, told.2) (one_fails c.args.count c.loop.counter c.args.reader.now c.loop.reader _ below c.loop.invariant c.in_err-pass_proof.ensures.refused)

pub returns-clause-read : goal.returns-clause-read
returns-clause-read c =
    let whole : c.loop.counter ≡ c.args.count = omega arith in
    all_passed c.args.count c.loop.counter c.args.reader.now c.loop.reader whole c.loop.invariant

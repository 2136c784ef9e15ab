use Rattle.std.proofs.Common.{ℕ, List}
use Rattle.ats_proof.specs.declared.record.Algorithm.TheVariants.{Tra, Tnra}
use Rattle.ats_auditors.specs.Trial.{IsTried}
use Rattle.ats_auditors.specs.Inner.Trial.{IsTryStop}
use Rattle.ats_console.proofs.Public.{passed}
use Rattle.ats_auditors.proofs.Tried.{at_query, first_more, stops_at_tra, stops_at_tnra}
use Rattle.ats_auditors.proofs.trials.tallies.Goals as goal

pub returns-in_err-count-clause-stop : goal.returns-in_err-count-clause-stop
returns-in_err-count-clause-stop g c =
    let H = g.H.HashKind.hash in
    let archive = c.args.index.now in
    let queries = c.args.queries.now in
    let i : ℕ = c.loop-query.query-index in
    let stop = c.in_err-count.field-0.0 in
    let own = at_query queries i c.query-item.result (λ (q : List (List ℕ × ℕ)). IsTryStop H archive q Tra stop) c.loop-query-test.true c.query-item.is c.in_err-count.ensures.stop in
    let fault = stops_at_tra H archive queries i c.loop-query.tra c.loop-query.tnra stop c.loop-query-test.true c.loop-query.invariant.tra c.loop-query.invariant.tnra own in
    passed _ c.from_residual.result c.from_residual.ensures.1 fault

pub returns-in_err-count-2-clause-stop : goal.returns-in_err-count-2-clause-stop
returns-in_err-count-2-clause-stop g c =
    let H = g.H.HashKind.hash in
    let archive = c.args.index.now in
    let queries = c.args.queries.now in
    let i : ℕ = c.loop-query.query-index in
    let stop = c.in_err-count-2.field-0.0 in
    let done = c.in_ok-count.ensures.counted in
    let tried = at_query queries i c.query-item.result (λ (q : List (List ℕ × ℕ)). IsTried H archive q Tra done.0) c.loop-query-test.true c.query-item.is done.1 in
    let tra = first_more H archive queries Tra i c.loop-query.tra c.count.new.tally done.0 c.loop-query.invariant.tra tried done.2 in
    let own = at_query queries i c.query-item.result (λ (q : List (List ℕ × ℕ)). IsTryStop H archive q Tnra stop) c.loop-query-test.true c.query-item.is c.in_err-count-2.ensures.stop in
    let fault = stops_at_tnra H archive queries i c.count.new.tally c.loop-query.tnra stop c.loop-query-test.true tra c.loop-query.invariant.tnra own in
    passed _ c.from_residual-in_err-count-2.result c.from_residual-in_err-count-2.ensures.1 fault

pub loop-query-preserved : goal.loop-query-preserved
loop-query-preserved g c =
    let H = g.H.HashKind.hash in
    let archive = c.args.index.now in
    let queries = c.args.queries.now in
    let i : ℕ = c.loop-query.query-index in
    let first = c.in_ok-count.ensures.counted in
    let second = c.in_ok-count-2.ensures.counted in
    let by_tra = at_query queries i c.query-item.result (λ (q : List (List ℕ × ℕ)). IsTried H archive q Tra first.0) c.loop-query-test.true c.query-item.is first.1 in
    let by_tnra = at_query queries i c.query-item.result (λ (q : List (List ℕ × ℕ)). IsTried H archive q Tnra second.0) c.loop-query-test.true c.query-item.is second.1 in
    record {
      tra = first_more H archive queries Tra i c.loop-query.tra c.count.new.tally first.0 c.loop-query.invariant.tra by_tra first.2;
      tnra = first_more H archive queries Tnra i c.loop-query.tnra c.count-in-loop-query.new.tally second.0 c.loop-query.invariant.tnra by_tnra second.2;
      tra_small = c.in_ok-count.ensures.small;
      tnra_small = c.in_ok-count-2.ensures.small;
    }

use Rattle.std.proofs.Common.{ℕ, ap, ◌∙◌, ◌≤◌, ◌-◌, length, drop, arith, take_all, length-take, length-drop}
use Rattle.ats_base.proofs.Exchanges.{wrote_more}
use Rattle.ats_base.proofs.moves.write_to.Goals as goal

pub writes-preserved : goal.writes-preserved
writes-preserved g c =
    let bytes = c.args.bytes.now in
    let all : length (drop c.writes.done bytes) ≤ length bytes - c.writes.done = omega (arith, length-drop c.writes.done bytes) in
    record {
      few = omega (arith, c.in_ok-count.ensures.some.0, length-take {A = ℕ}, length-drop {A = ℕ});
      written = wrote_more _ _ _ _ _ _ _ c.writes.invariant.written (take_all _ _ all) c.in_ok-count.ensures.bytes;
      turns = omega (arith, c.in_ok-count.ensures.counted, c.in_ok-count.ensures.some.1, c.writes.invariant.turns, c.writes-test.true, length-drop c.writes.done bytes);
      none = λ empty. absurd (omega (arith, ap length empty, c.writes-test.true));
      same = c.in_ok-count.ensures.cause.same ∙ c.writes.invariant.same;
    }

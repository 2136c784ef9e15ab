use Rattle.std.proofs.Common.{◌≡◌, false, drop, get_or, arith, length-drop}
use Rattle.std.specs.Prelude.{nat_eq}
use Rattle.std.proofs.lemmas.Bool.Decides.{nat_tests}
use Rattle.std.proofs.lemmas.List.Sums.{common_prefix_len-le, common_prefix_len-drop_no}
use Rattle.ats_index.proofs.compare.common.Goals as goal
use Rattle.ats_index.proofs.compare.common.Goals.{then-i-ys-via-then-i-ys, then-i-ys-via-else-i-ys+then-x-ys}

pub returns-then-i-ys : goal.returns-then-i-ys
returns-then-i-ys c = elim c.then-i-ys.branch [
  | then-i-ys-via-then-i-ys w ↦ omega (
    arith,
    c.loop-i.invariant,
    (common_prefix_len-le nat_eq (drop c.loop-i.i c.args.xs.now) (drop c.loop-i.i c.args.ys.now)).1,
    length-drop c.loop-i.i c.args.ys.now,
    w.if-i-ys.true,
  )
  | then-i-ys-via-else-i-ys+then-x-ys w ↦ let other : nat_eq (get_or c.args.xs.now c.loop-i.i 0) (get_or c.args.ys.now c.loop-i.i 0) ≡ false = grind (arith, nat_tests, w.if-x-ys.true) in
      omega (
        arith,
        c.loop-i.invariant,
        common_prefix_len-drop_no nat_eq c.args.xs.now c.args.ys.now c.loop-i.i 0 0 (omega (arith, c.loop-i-test.true)) (omega (arith, w.if-i-ys.false)) other,
      )
]

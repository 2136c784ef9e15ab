use Rattle.std.proofs.Common.{◌≡◌, ◌+◌, drop}
use Rattle.std.specs.Prelude.{nat_eq}
use Rattle.std.specs.List.{common_prefix_len}
use Rattle.ats_index.proofs.compare.common.Given as goal

-- the elements so far are common
abbrev pub invariant-loop-i : goal.invariant-loop-i
invariant-loop-i l = common_prefix_len nat_eq l.xs l.ys ≡ l.i + common_prefix_len nat_eq (drop l.i l.xs) (drop l.i l.ys)

use Rattle.std.proofs.Common.{◌≡◌, ◌+◌, replicate}
use Rattle.std.specs.Vec.{vec_len, vec_capacity}
use Rattle.ats_bound.specs.Work.{zero_mark}
use Rattle.ats_bound.proofs.work.zero.Given as goal

abbrev pub invariant-loop-i : goal.invariant-loop-i
invariant-loop-i l = record {
  marks : l.marks.items ≡ replicate l._i zero_mark;
  size : vec_len l.marks ≡ l._i;
  capacity : vec_capacity l.marks ≡ vec_capacity l.initial.marks;
  steps : l.steps ≡ l.initial.steps + l._i;
}

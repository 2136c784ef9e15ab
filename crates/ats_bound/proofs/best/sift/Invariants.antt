use Rattle.std.proofs.Common.{◌≡◌, ◌+◌, ◌<◌, ℕ, length}
use Rattle.std.specs.List.Sorted.{IsPermutation}
use Rattle.ats_bound.specs.Inner.Best.{AscendsBut}
use Rattle.ats_bound.proofs.best.sift.Given as goal

abbrev pub invariant-loop-next : goal.invariant-loop-next
invariant-loop-next l = record {
  same : IsPermutation l.fn.values l.values;
  inside : (k : ℕ) → k + 1 ≡ l.next → k < length l.values;
  others : (k : ℕ) → k + 1 ≡ l.next → AscendsBut k l.values;
}

use Rattle.std.proofs.Common.{◌≡◌, ◌≤◌, ◌*◌, ◌^◌, ℕ, drop, take}
use Rattle.ats_bound.specs.Cut.{missing}
use Rattle.ats_bound.specs.Cursors.{shown_on}
use Rattle.ats_bound.specs.Inner.Cursors.{named_by}
use Rattle.ats_bound.proofs.cursors.Cursors.missing.Given as goal

-- what the first lanes can add, and the digits of the others
abbrev pub invariant-loop-rest : goal.invariant-loop-rest
invariant-loop-rest l = record {
  sum : (doc : ℕ) → l.named ≡ named_by (shown_on l.self) doc → l.sum ≡ missing (take l.rest-index (shown_on l.self)) doc;
  digits : (doc : ℕ) → l.named ≡ named_by (shown_on l.self) doc → l.digits ≡ named_by (drop l.rest-index (shown_on l.self)) doc;
  few : l.sum ≤ l.rest-index * 2 ^ 32;
}

use Rattle.std.proofs.Common.{◌≡◌, ◌≢◌, ◌<◌, ◌≤◌, ◌+◌, ℕ, length, true}
use Rattle.ats_catalog_check.specs.Merge.{precedes, row_at}
use Rattle.ats_catalog_check.proofs.inserting.place.Given as goal

abbrev pub invariant-loop-place : goal.invariant-loop-place
invariant-loop-place l = record {
  inside : l.place ≤ length l.rows.rows;
  steps : l.steps + l.place ≡ l.fn.steps + length l.rows.rows;
  later : (k : ℕ) → l.place ≤ k → k < length l.rows.rows → (precedes l.row (row_at l.rows.rows k) ≡ true) × ((row_at l.rows.rows k).shard ≢ l.row.shard);
}

abbrev pub decreases-loop-place : goal.decreases-loop-place
decreases-loop-place l = l.place

use Rattle.std.proofs.Common.{◌≡◌, ◌≤◌, ◌+◌, ◌*◌, ℕ, List, map, take}
use Rattle.ats_client.specs.Rows.{IsLeftByCheck, rows_of}
use Rattle.ats_catalog_check.specs.Merge.{in_shard, merge, AreFalling}
use Rattle.ats_catalog_check.proofs.merging.merge_rows.Given as goal

abbrev pub invariant-loop-i : goal.invariant-loop-i
invariant-loop-i l = record {
  room : l.rows.room ≡ l.fn.rows.room;
  steps : l.steps ≤ l.fn.steps + (l.top + 3) * l.i;
  count : l.steps ≤ l.fn.steps + 1003 * l.i;
  falling : AreFalling l.top l.rows.rows;
  rows : (query : List (List ℕ × ℕ)) → IsLeftByCheck query l.proof l.work.marks l.threshold
      → l.rows.rows ≡ merge l.fn.rows.rows (take l.i (map (in_shard l.shard) (rows_of query l.proof)));
}

use Rattle.std.proofs.Common.{◌≡◌, ◌≤◌, ◌+◌, ◌*◌, ◌^◌, ℕ, List, take, drop, sum}
use Rattle.ats_catalog_bytes.specs.Seen.{shards_left}
use Rattle.ats_catalog_check.specs.Accepts.{HaveItems}
use Rattle.ats_catalog_check.specs.Inner.Checked.{AreLeft}
use Rattle.ats_catalog_check.proofs.checking.check_shards.Given as goal

abbrev pub invariant-loop-shard : goal.invariant-loop-shard
invariant-loop-shard g l = record {
  left : AreLeft g.H.HashKind.hash l.query l.top (take l.shard l.view) l.rows.rows l.fall l.most;
  shards : shards_left l.shards ≡ drop l.shard l.view;
  work_room : l.work.room ≡ l.fn.work.room;
  rows_room : l.rows.room ≡ l.fn.rows.room;
  steps : (items : List ℕ) → HaveItems l.view items → l.steps ≤ l.fn.steps + (l.top + 8) * sum (take l.shard items) + 64 * l.shard;
  count : l.steps ≤ l.fn.steps + 2 ^ 37 * l.shard;
}

use Rattle.std.proofs.Common.{◌≡◌, ◌+◌, ◌*◌, ◌≤◌, length}
use Rattle.std.specs.List.{All, sum_by}
use Rattle.ats_proof.specs.Ranges.{IsPrefixInRange}
use Rattle.ats_proof.specs.Value.{items_of_prefix}
use Rattle.ats_client.specs.Inner.SeenLists.{prefixes_left}
use Rattle.ats_client.specs.Inner.Seen.{entries_left}
use Rattle.ats_client.proofs.Rising.{IsBefore}
use Rattle.ats_client.proofs.Passing.{IsPassed}
use Rattle.ats_client.proofs.all_lists.lists.Given as goal

abbrev pub invariant-loop-i : goal.invariant-loop-i
invariant-loop-i g l = record {
  passed : IsPassed g.H.HashKind.hash l.query l.proof l.i (prefixes_left l.left) l.terms l.threshold l.work.marks;
  ranges : All IsPrefixInRange (prefixes_left l.left);
  dict : entries_left l.walk.all ≡ l.proof.dict;
  room : l.work.room ≡ l.fn.work.room;
  cost : l.steps ≤ l.fn.steps + 4294967296 + l.i * 68720000000;
  before : IsBefore l.walk.place l.proof.slots l.i;
  most : l.steps + length (entries_left l.walk.left) + 6 * sum_by items_of_prefix (prefixes_left l.left)
      ≤ l.fn.steps + length l.proof.met + length l.proof.dict + 4 * l.i + 6 * sum_by items_of_prefix l.proof.lists;
}

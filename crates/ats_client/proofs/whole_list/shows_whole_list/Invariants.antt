use Rattle.std.proofs.Common.{◌≡◌, ◌+◌, ◌*◌, ◌≤◌, length, drop}
use Rattle.std.specs.List.{list_any}
use Rattle.ats_proof.specs.Value.{present_in}
use Rattle.ats_client.specs.Inner.SeenLists.{prefixes_left}
use Rattle.ats_client.specs.Presented.{presented_from}
use Rattle.ats_client.specs.Inner.Seen.{entries_left}
use Rattle.ats_client.specs.WholeLists.{is_whole, shows_whole}
use Rattle.ats_client.proofs.Rising.{IsBefore}
use Rattle.ats_client.proofs.whole_list.shows_whole_list.Given as goal

abbrev pub invariant-loop-i : goal.invariant-loop-i
invariant-loop-i l = record {
  later : shows_whole l.query l.proof
      ≡ list_any is_whole (presented_from l.proof.dict l.i (drop l.i l.query) (drop l.i l.proof.slots) (prefixes_left l.left));
  enough : present_in (drop l.i l.proof.slots) ≡ length (prefixes_left l.left);
  dict : entries_left l.walk.all ≡ l.proof.dict;
  before : IsBefore l.walk.place l.proof.slots l.i;
  cost : l.steps ≤ l.fn.steps + l.i * 131072;
  most : l.steps + length (entries_left l.walk.left) ≤ l.fn.steps + length l.proof.dict + 2 * l.i;
}

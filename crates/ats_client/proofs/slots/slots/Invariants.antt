use Rattle.std.proofs.Common.{◌≡◌, ◌+◌, ◌*◌, ◌<◌, ◌≤◌, ℕ, length}
use Rattle.ats_client.specs.Groups.{IsSlotRight}
use Rattle.ats_client.specs.Inner.Seen.{entries_left}
use Rattle.ats_client.proofs.Rising.{IsBefore}
use Rattle.ats_client.proofs.slots.slots.Given as goal

abbrev pub invariant-loop-i : goal.invariant-loop-i
invariant-loop-i l = record {
  dict : entries_left l.walk.all ≡ l.proof.dict;
  right : (i : ℕ) → i < l.i → IsSlotRight l.query l.proof i;
  cost : l.steps ≤ l.fn.steps + l.i * 262144;
  before : IsBefore l.walk.place l.proof.slots l.i;
  most : l.steps + length (entries_left l.walk.left) ≤ l.fn.steps + length l.proof.dict + 2 * l.i;
}

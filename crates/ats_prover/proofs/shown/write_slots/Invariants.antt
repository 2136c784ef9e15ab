use Rattle.std.proofs.Common.{◌≡◌, ◌≤◌, ◌+◌, ◌*◌, map, take}
use Rattle.std.specs.List.{flat_map}
use Rattle.ats_proof.specs.Value.{slot_fields}
use Rattle.ats_honest.specs.Terms.{slot_of}
use Rattle.ats_prover.specs.Inner.Writing.{put}
use Rattle.ats_prover.proofs.shown.write_slots.Given as goal

-- the slots so far
abbrev pub invariant-loop-spot : goal.invariant-loop-spot
invariant-loop-spot l = record {
  fields : l.writer ≡ put l.fn.writer (flat_map slot_fields (take l.spot-index (map (slot_of l.positions) l.spots)));
  size : l.writer.asked ≤ l.fn.writer.asked + 3 * l.spot-index;
}

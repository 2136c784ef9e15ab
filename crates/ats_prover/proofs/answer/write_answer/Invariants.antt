use Rattle.std.proofs.Common.{◌≡◌, ◌≤◌, ◌+◌, ◌*◌, ◌∷◌, length, take}
use Rattle.std.specs.List.{flat_map}
use Rattle.ats_proof.specs.Parts.{spelled}
use Rattle.ats_proof.specs.Value.{id_fields}
use Rattle.ats_prover.specs.Inner.Writing.{put}
use Rattle.ats_prover.proofs.answer.write_answer.Given as goal

-- the rows so far follow their number
abbrev pub invariant-loop-pick : goal.invariant-loop-pick
invariant-loop-pick l = record {
  fields : l.writer ≡ put l.fn.writer (spelled 2 (length l.picks) ∷ flat_map id_fields (take l.pick-index l.picks));
  size : l.writer.asked ≤ l.fn.writer.asked + 2 + 4 * l.pick-index;
}

use Rattle.std.proofs.Common.{◌≡◌, ◌≤◌, ◌+◌, ◌*◌, ◌∷◌, length, take}
use Rattle.std.specs.List.{flat_map}
use Rattle.ats_proof.specs.Parts.{spelled}
use Rattle.ats_proof.specs.Value.{id_fields}
use Rattle.ats_prover.specs.Inner.Writing.{put}
use Rattle.ats_prover.proofs.answer.write_met.Given as goal

-- the ids so far follow their number
abbrev pub invariant-loop-id : goal.invariant-loop-id
invariant-loop-id l = record {
  fields : l.writer ≡ put l.fn.writer (spelled 4 (length l.met) ∷ flat_map id_fields (take l.id-index l.met));
  size : l.writer.asked ≤ l.fn.writer.asked + 4 + 4 * l.id-index;
}

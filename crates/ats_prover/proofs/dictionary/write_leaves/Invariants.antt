use Rattle.std.proofs.Common.{◌≡◌, ◌≤◌, ◌+◌, ◌*◌, ◌∷◌, length, map, take}
use Rattle.std.specs.List.{flat_map}
use Rattle.ats_proof.specs.Parts.{spelled}
use Rattle.ats_proof.specs.Value.{entry_fields}
use Rattle.ats_honest.specs.Terms.{shown_entry}
use Rattle.ats_prover.specs.Inner.Writing.{put}
use Rattle.ats_prover.proofs.dictionary.write_leaves.Given as goal

-- the leaves so far follow their number
abbrev pub invariant-loop-p : goal.invariant-loop-p
invariant-loop-p l = record {
  fields : l.writer ≡ put l.fn.writer (spelled 2 (length (map (shown_entry l.dictionary) l.positions)) ∷ flat_map entry_fields (take l.p-index (map (shown_entry l.dictionary) l.positions)));
  size : l.writer.asked ≤ l.fn.writer.asked + 2 + 105 * l.p-index;
}

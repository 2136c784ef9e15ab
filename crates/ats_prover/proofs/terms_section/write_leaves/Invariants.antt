use Rattle.std.proofs.Common.{◌≡◌, ◌≤◌, ◌+◌, ◌*◌, ◌∷◌, length, map, take}
use Rattle.std.specs.List.{flat_map}
use Rattle.ats_proof.specs.Parts.{spelled}
use Rattle.ats_proof.specs.Value.{term_fields}
use Rattle.ats_honest.specs.Documents.{shown_term}
use Rattle.ats_prover.specs.Inner.Writing.{put}
use Rattle.ats_prover.proofs.terms_section.write_leaves.Given as goal

-- the leaves so far follow their number
abbrev pub invariant-loop-p : goal.invariant-loop-p
invariant-loop-p l = record {
  fields : l.writer ≡ put l.fn.writer (spelled 2 (length (map (shown_term l.terms) l.positions)) ∷ flat_map term_fields (take l.p-index (map (shown_term l.terms) l.positions)));
  size : l.writer.asked ≤ l.fn.writer.asked + 2 + 71 * l.p-index;
}

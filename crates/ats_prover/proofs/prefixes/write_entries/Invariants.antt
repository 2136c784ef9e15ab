use Rattle.std.proofs.Common.{◌≡◌, ◌≤◌, ◌+◌, ◌*◌, ◌∷◌, length, map, take}
use Rattle.std.specs.List.{flat_map}
use Rattle.ats_proof.specs.Parts.{spelled}
use Rattle.ats_proof.specs.Value.{posting_fields}
use Rattle.ats_honest.specs.Honest.{placed}
use Rattle.ats_prover.specs.Inner.Writing.{put}
use Rattle.ats_prover.proofs.prefixes.write_entries.Given as goal

-- the entries so far follow their number
abbrev pub invariant-loop-entry : goal.invariant-loop-entry
invariant-loop-entry l = record {
  fields : l.writer ≡ put l.fn.writer (spelled 4 (length (map (placed l.met) l.entries)) ∷ flat_map posting_fields (take l.entry-index (map (placed l.met) l.entries)));
  size : l.writer.asked ≤ l.fn.writer.asked + 4 + 6 * l.entry-index;
}

-- The bytes of a catalog's proof, from the roots of its shards and their proofs.
use Rattle.std.specs.Prelude.{ℕ, List, ◌∷◌, ◌++◌, length}
use Rattle.std.specs.List.{concat, flat_map}
use Rattle.ats_grammar.specs.Table.{spelled}
use Rattle.ats_catalog_bytes.specs.Value.{proof_fields}

-- the fields up to the last root
abbrev pub front_fields : List (List ℕ) → List (List ℕ)
front_fields roots = spelled 4 0x41545353 ∷ spelled 1 1 ∷ spelled 4 (length roots) ∷ roots

abbrev pub front_bytes : List (List ℕ) → List ℕ
front_bytes roots = concat (front_fields roots)

-- and then the proof of each shard, after its length
abbrev pub bytes_of : List (List ℕ) → List (List ℕ) → List ℕ
bytes_of roots proofs = front_bytes roots ++ concat (flat_map proof_fields proofs)

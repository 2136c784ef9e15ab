-- Where the bytes of a catalog's proof have the proofs of its shards.
use Rattle.std.specs.Prelude.{ℕ, ◌+◌, ◌≤◌, List, [], ◌∷◌, length, take, drop}
use Rattle.ats_proof.specs.Parts.{number_in, total_size}
use Rattle.ats_catalog_bytes.specs.Value.{Framed}

-- the size of the proof at the front of bytes, with its length
abbrev pub proof_size : List ℕ → ℕ
proof_size bytes = 4 + number_in 4 bytes

-- the proof at the front of bytes, after its length
abbrev pub proof_in : List ℕ → List ℕ
proof_in bytes = take (number_in 4 bytes) (drop 4 bytes)

-- shards with these roots, whose proofs are in the bytes one after another
abbrev pub shards_in : List (List ℕ) → List ℕ → List Framed
shards_in [] bytes = []
shards_in (root ∷ roots) bytes = record { root = root; bytes = proof_in bytes } ∷ shards_in roots (drop (proof_size bytes) bytes)

-- the bytes have room for a proof, after its length, for each of these roots
abbrev pub HaveRoom : List (List ℕ) → List ℕ → Type 0
HaveRoom roots bytes = total_size proof_size (length roots) bytes ≤ length bytes

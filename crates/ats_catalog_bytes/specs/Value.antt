-- What a catalog's proof says, and the fields that spell it.
use Rattle.std.specs.Prelude.{◌≡◌, ◌≤◌, ◌+◌, ◌^◌, ℕ, List, [], ◌∷◌, ◌++◌, length, map, slice_index_or}
use Rattle.std.specs.List.{All, flat_map, sum_by}
use Rattle.ats_grammar.specs.Front.{Spells}
use Rattle.ats_grammar.specs.Table.{spelled}
use Rattle.ats_catalog_bytes.specs.Grammar.{catalog_schema}

-- what is shown of one shard: its root, and the bytes of its proof
pub record Framed : Type 0 where
  pub root : List ℕ
  pub bytes : List ℕ

-- what is shown of the shard with this number; past the last it is nothing
abbrev pub frame_at : List Framed → ℕ → Framed
frame_at shards i = slice_index_or shards i (record { root = []; bytes = [] })

-- the roots that are shown
abbrev pub shown_roots : List Framed → List (List ℕ)
shown_roots shards = map (λ (one : Framed). one.root) shards

-- a proof after its length
abbrev pub proof_fields : List ℕ → List (List ℕ)
proof_fields bytes = spelled 4 (length bytes) ∷ bytes ∷ []

-- the proofs of all shards
abbrev pub proofs_fields : List Framed → List (List ℕ)
proofs_fields shards = flat_map (λ (one : Framed). proof_fields one.bytes) shards

-- all fields, in the table's order
abbrev pub fields_of : List Framed → List (List ℕ)
fields_of shards =
    spelled 4 0x41545353 ∷ spelled 1 1 ∷ spelled 4 (length shards) ∷ (shown_roots shards ++ proofs_fields shards)

-- the bytes spell what is shown of these shards
pub record IsCatalogProof (bytes : List ℕ) (shards : List Framed) : Type 0 where
  pub spells : Spells catalog_schema bytes (fields_of shards)

-- a root of 32 bytes, and a proof that is no longer than proofs may be
pub record IsFrame (one : Framed) : Type 0 where
  pub sized : length one.root ≡ 32
  pub short : length one.bytes ≤ 2 ^ 26

-- how many bytes are spent on a shard: its root, the length, and the proof
abbrev pub frame_size : Framed → ℕ
frame_size one = 36 + length one.bytes

-- 1 to 4,096 shards, each with its parts in their ranges, and at most 2^28 bytes in all
pub record AreFrames (shards : List Framed) : Type 0 where
  pub some : 1 ≤ length shards
  pub few : length shards ≤ 4096
  pub each : All IsFrame shards
  pub fit : 9 + sum_by frame_size shards ≤ 2 ^ 28

-- The header of a collection, of 105 bytes.
use Rattle.std.specs.Prelude.{◌≡◌, ◌≤◌, ◌+◌, ℕ, List, ◌∷◌, ◌++◌, length, slice_index, slice_range}
use Rattle.std.specs.Int.{to_be_bytes, from_be_bytes, w32}

-- version 1, the number of documents, the number of dictionary leaves, and three roots of 32 bytes
unfoldable pub header_bytes : ℕ → ℕ → List ℕ → List ℕ → List ℕ → List ℕ
header_bytes documents dict_leaves dict_root docs_root texts_root =
    1 ∷ to_be_bytes w32 documents ++ to_be_bytes w32 dict_leaves ++ dict_root ++ docs_root ++ texts_root

-- 1 to 65,536 documents, and two sentinels with at most 2 ^ 24 terms between them
pub record AreInRange (documents dict_leaves : ℕ) : Type 0 where
  pub some : 1 ≤ documents
  pub few : documents ≤ 65536
  pub sentinels : 2 ≤ dict_leaves
  pub terms : dict_leaves ≤ 16777218

-- numbers in range and three roots
pub record IsHeader (documents dict_leaves : ℕ) (dict_root docs_root texts_root : List ℕ) : Type 0 where
  pub numbers : AreInRange documents dict_leaves
  pub dict : length dict_root ≡ 32
  pub docs : length docs_root ≡ 32
  pub texts : length texts_root ≡ 32

-- the number of 4 bytes that begins at this place
abbrev pub number_at : List ℕ → ℕ → ℕ
number_at bytes place = from_be_bytes w32 (slice_range bytes place (place + 4))

-- the version, the number of documents and the number of dictionary leaves in these bytes are a header's
pub record HasHeader (bytes : List ℕ) : Type 0 where
  pub version : slice_index bytes 0 ≡ 1
  pub numbers : AreInRange (number_at bytes 1) (number_at bytes 5)

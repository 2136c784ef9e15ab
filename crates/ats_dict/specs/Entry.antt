-- A leaf of the dictionary, and its bytes.
use Rattle.std.specs.Prelude.{◌≡◌, ◌<◌, ◌^◌, ℕ, List, ◌∷◌, ◌++◌, length}
use Rattle.std.specs.Int.{to_be_bytes, w32}
use Rattle.ats_terms.specs.Terms.{IsTerm}

-- a term, the number of documents that have it, and the root of its list
pub record DictEntry : Type 0 where
  pub term : List ℕ
  pub f : ℕ
  pub root : List ℕ

-- the length of the term in one byte, the term, the number of documents in 4 bytes, and the root
unfoldable pub dict_leaf_bytes : List ℕ → ℕ → List ℕ → List ℕ
dict_leaf_bytes term f root = length term ∷ term ++ to_be_bytes w32 f ++ root

-- a valid entry
pub record IsDictEntry (entry : DictEntry) : Type 0 where
  pub term : IsTerm entry.term
  pub number : entry.f < 2 ^ 32
  pub root : length entry.root ≡ 32

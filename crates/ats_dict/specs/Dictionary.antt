-- The dictionary of a collection: its entries in byte order of their terms, between two sentinels.
use Rattle.std.specs.Prelude.{◌≤◌, ◌-◌, ◌^◌, ℕ, List, [], ◌∷◌, ◌++◌, length, map, replicate, slice_index_or, slice_get, IfSome}
use Rattle.std.specs.List.{All, AllPairs}
pub use Rattle.ats_terms.specs.Order.{byte_cmp, IsBelow}
use Rattle.ats_dict.specs.Entry.{DictEntry, IsDictEntry, dict_leaf_bytes}

-- at most 2 ^ 24 entries, whose terms rise strictly in byte order
pub record IsDictionary (entries : List DictEntry) : Type 0 where
  pub few : length entries ≤ 2 ^ 24
  pub each : All IsDictEntry entries
  pub rises : AllPairs (λ entry later. IsBelow entry.term later.term) entries

-- the term is above the last entry's, if there is one
abbrev pub IsAboveLast : List DictEntry → List ℕ → Type 0
IsAboveLast entries term = IfSome (slice_get entries (length entries - 1)) (λ last. IsBelow last.term term)

-- the root of a sentinel
unfoldable pub zero_root : List ℕ
zero_root = replicate 32 0

abbrev pub low : DictEntry
low = record { term = []; f = 0; root = zero_root }

abbrev pub high : DictEntry
high = record { term = 255 ∷ []; f = 0; root = zero_root }

-- the entries of all leaves
abbrev pub with_sentinels : List DictEntry → List DictEntry
with_sentinels entries = low ∷ entries ++ high ∷ []

-- the entry of the leaf at a position, and its term
abbrev pub entry_at : List DictEntry → ℕ → DictEntry
entry_at entries p = slice_index_or (with_sentinels entries) p low

abbrev pub term_at : List DictEntry → ℕ → List ℕ
term_at entries p = (entry_at entries p).term

-- the bytes of an entry's leaf, and those of all leaves
abbrev pub leaf_of : DictEntry → List ℕ
leaf_of entry = dict_leaf_bytes entry.term entry.f entry.root

abbrev pub dict_leaves : List DictEntry → List (List ℕ)
dict_leaves entries = leaf_of low ∷ map leaf_of entries ++ leaf_of high ∷ []

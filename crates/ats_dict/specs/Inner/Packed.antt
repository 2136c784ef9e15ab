-- The entries of a dictionary in memory: their terms one after another, each after its length.
use Rattle.std.specs.Prelude.{◌≡◌, ◌≤◌, ◌*◌, ℕ, List, ◌∷◌, length, map, drop, slice_range}
use Rattle.std.specs.List.{All}
use Rattle.ats_dict.specs.declared.dictionary.Stored.{Stored}
use Rattle.ats_dict.specs.Entry.{DictEntry}
use Rattle.ats_dict.specs.Dictionary.{IsDictionary}

-- the length and the term of an entry
abbrev pub front_of : List ℕ → Stored → List ℕ
front_of fronts stored = slice_range fronts stored.start stored.end

abbrev pub entry_of : List ℕ → Stored → DictEntry
entry_of fronts stored = record { term = drop 1 (front_of fronts stored); f = stored.f; root = stored.list_root }

abbrev pub entries_of : List ℕ → List Stored → List DictEntry
entries_of fronts all = map (entry_of fronts) all

-- the length and the term are within the bytes, and the first byte is the length of the term
pub record IsPacked (fronts : List ℕ) (stored : Stored) : Type 0 where
  pub rises : stored.start ≤ stored.end
  pub within : stored.end ≤ length fronts
  pub front : front_of fronts stored ≡ length (drop 1 (front_of fronts stored)) ∷ drop 1 (front_of fronts stored)

-- each entry is packed, in at most 65 bytes, and together they are a dictionary
pub record ArePacked (fronts : List ℕ) (all : List Stored) : Type 0 where
  pub each : All (IsPacked fronts) all
  pub short : length fronts ≤ 65 * length all
  pub dictionary : IsDictionary (entries_of fronts all)

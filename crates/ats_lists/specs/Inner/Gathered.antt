-- Postings that are gathered with their terms, document by document.
use Rattle.std.specs.Prelude.{◌≡◌, ◌<◌, ◌-◌, ◌+◌, ◌⊎◌, ◌==◌, ℕ, true, List, [], length, map, filter, slice_index_or}
use Rattle.std.specs.List.{All, list_any}
use Rattle.std.specs.Str.{bytes_eq}
use Rattle.ats_terms.specs.Front.{front, AreBytes}
use Rattle.ats_terms.specs.Terms.{IsTerm}
use Rattle.ats_postings.specs.Postings.{postings_of_run}
use Rattle.ats_postings.specs.declared.entry.Entry.{Entry}
use Rattle.ats_lists.specs.declared.numbering.Slot.{Slot}
use Rattle.ats_lists.specs.declared.gathering.Logged.{Logged}

-- entries with their terms, in the order in which they were added
abbrev pub Pairs : Type 0
Pairs = List (List ℕ × Entry)

-- the entries of a term, in order
abbrev pub entries_for : List ℕ → Pairs → List Entry
entries_for term pairs = map (λ pair. pair.1) (filter (λ pair. bytes_eq term pair.0) pairs)

-- the pairs have these entries for each term
pub record HasEntries (of : List ℕ → List Entry) (pairs : Pairs) : Type 0 where
  pub entries : (term : List ℕ) → entries_for term pairs ≡ of term
  pub terms : All (λ pair. IsTerm pair.0) pairs

-- the pairs have the postings of the documents from `first` up to, but not including, `end`
abbrev pub HasRun : ℕ → ℕ → List (List ℕ) → Pairs → Type 0
HasRun first end texts pairs = HasEntries (postings_of_run first (end - first) texts) pairs

-- the term of a number
abbrev pub term_of : List (List ℕ) → ℕ → List ℕ
term_of terms n = slice_index_or terms n []

-- the pairs are all numbers, each with its term
pub record AreNumbered (terms : List (List ℕ)) (all : List (List ℕ × ℕ)) : Type 0 where
  pub each : All (λ pair. (pair.1 < length terms) × (term_of terms pair.1 ≡ pair.0)) all
  pub every : (n : ℕ) → n < length terms → list_any (λ pair. pair.1 == n) all ≡ true
  pub size : length all ≡ length terms

-- the slot holds the number, the first bytes and the length of one of the terms
pub record IsSlotOf (terms : List (List ℕ)) (slot : Slot) : Type 0 where
  pub inside : slot.number < length terms
  pub first : slot.first ≡ front 8 (term_of terms slot.number)
  pub size : slot.size ≡ length (term_of terms slot.number) + 1
  pub bytes : AreBytes (term_of terms slot.number)

-- each slot is empty or a term's
abbrev pub AreSlotsOf : List (List ℕ) → List Slot → Type 0
AreSlotsOf terms slots = All (λ slot. (slot.size ≡ 0) ⊎ IsSlotOf terms slot) slots

-- the entries with the terms of their numbers
abbrev pub pairs_of : List (List ℕ) → List Logged → Pairs
pairs_of terms log = map (λ logged. (term_of terms logged.number, logged.entry)) log

-- the entries under a number, in order
abbrev pub entries_under : ℕ → List Logged → List Entry
entries_under n log = map (λ logged. logged.entry) (filter (λ logged. logged.number == n) log)

-- each number is that of a term, and each term has an entry
pub record IsLogOf (terms : List (List ℕ)) (log : List Logged) : Type 0 where
  pub inside : All (λ logged. logged.number < length terms) log
  pub used : (n : ℕ) → n < length terms → (i : ℕ) × (i < length log) × ((d : Logged) → (slice_index_or log i d).number ≡ n)

-- The numbers under which the first i terms of another run are found in `new`. Each old term keeps its number there,
-- and every number in `new` is an old one or one of these.
pub record AreNewNumbers (old others new : List (List ℕ)) (i : ℕ) (numbers : List ℕ) : Type 0 where
  pub size : length numbers ≡ i
  pub kept : (n : ℕ) → n < length old → (n < length new) × (term_of new n ≡ term_of old n)
  pub right : (j : ℕ) → j < i → (slice_index_or numbers j 0 < length new) × (term_of new (slice_index_or numbers j 0) ≡ term_of others j)
  pub used : (n : ℕ) → n < length new → (n < length old) ⊎ ((j : ℕ) × (j < i) × (slice_index_or numbers j 0 ≡ n))

-- an entry under its new number
abbrev pub renumbered : List ℕ → Logged → Logged
renumbered numbers logged = record { number = slice_index_or numbers logged.number 0; entry = logged.entry }

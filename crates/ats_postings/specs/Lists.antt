-- The inverted lists of a collection's texts: one for each distinct term.
use Rattle.std.specs.Prelude.{◌≢◌, ◌<◌, ◌≤◌, ◌==◌, ◌^◌, ℕ, zero, suc, List, [], ◌++◌, length, map, filter, slice_index_or}
use Rattle.std.specs.List.{All, flat_map}
use Rattle.std.specs.List.Sorted.{IsPermutation, IsSorted, IsStrictlySortedBy}
use Rattle.std.specs.Ordering.{nat_cmp, ordering_then}
use Rattle.std.specs.declared.cmp.Ordering.{Ordering}
use Rattle.ats_terms.specs.Terms.{terms, IsTerm}
use Rattle.ats_terms.specs.Query.{byte_cmp, counted}
use Rattle.ats_postings.specs.Postings.{postings}
use Rattle.ats_postings.specs.declared.entry.Entry.{Entry}

-- the entries of impact n, then those of impact n - 1, and so on down to 1; those of one impact in their given order
unfoldable pub by_impact : ℕ → List Entry → List Entry
by_impact zero entries = []
by_impact (suc n) entries = filter (λ entry. entry.impact == suc n) entries ++ by_impact n entries

-- the list of a term: its postings by impact descending, then document ascending; 2,200 is the largest impact
unfoldable pub list : List (List ℕ) → List ℕ → List Entry
list texts term = by_impact 2200 (postings texts term)

-- by impact descending, then document ascending
abbrev pub entry_cmp : Entry → Entry → Ordering
entry_cmp a b = ordering_then (nat_cmp b.impact a.impact) (nat_cmp a.doc b.doc)

-- the entries are the postings of the term, by impact descending, then document ascending
pub record IsListOf (texts : List (List ℕ)) (term : List ℕ) (entries : List Entry) : Type 0 where
  pub same : IsPermutation (postings texts term) entries
  pub ordered : IsSorted entry_cmp entries

-- the distinct terms of all texts, in byte order
unfoldable pub vocabulary : List (List ℕ) → List (List ℕ)
vocabulary texts = map (λ pair. pair.0) (counted (flat_map terms texts))

-- each term of the vocabulary with its list
unfoldable pub lists_of : List (List ℕ) → List (List ℕ × List Entry)
lists_of texts = map (λ term. (term, list texts term)) (vocabulary texts)

-- a valid list over n documents
pub record IsList (n : ℕ) (entries : List Entry) : Type 0 where
  pub some : 1 ≤ length entries
  pub few : length entries ≤ n
  pub documents : All (λ entry. entry.doc < n) entries
  pub impacts : All (λ entry. (1 ≤ entry.impact) × (entry.impact ≤ 2200)) entries
  -- impacts never rise, and no document occurs twice
  pub falling : (i j : ℕ) (d : Entry) → i < j → j < length entries
      → (slice_index_or entries j d).impact ≤ (slice_index_or entries i d).impact
  pub once : (i j : ℕ) (d : Entry) → i < j → j < length entries
      → (slice_index_or entries i d).doc ≢ (slice_index_or entries j d).doc

-- valid lists over n documents, at most 2^24 of them, whose terms rise strictly in byte order
pub record AreLists (n : ℕ) (lists : List (List ℕ × List Entry)) : Type 0 where
  pub few : length lists ≤ 2 ^ 24
  pub rise : IsStrictlySortedBy byte_cmp (map (λ list. list.0) lists)
  pub terms : All (λ list. IsTerm list.0) lists
  pub each : All (λ list. IsList n list.1) lists

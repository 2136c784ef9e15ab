-- The chosen answer of a list of brackets.
use Rattle.std.specs.Prelude.{◌≡◌, ◌≤◌, ℕ, List, length, take}
use Rattle.std.specs.List.{All, range_with_len}
use Rattle.std.specs.List.Sorted.{IsPermutation, IsSorted}
use Rattle.std.specs.Ordering.{nat_cmp, ordering_then}
use Rattle.std.specs.declared.cmp.Ordering.{Ordering}
use Rattle.ats_bound.specs.declared.bracket.Bracket.{Bracket}
use Rattle.ats_bound.specs.Settled.{bracket_at}

-- by lower bound descending, then upper bound descending, then document ascending
abbrev pub bracket_cmp : Bracket → Bracket → Ordering
bracket_cmp a b = ordering_then (ordering_then (nat_cmp b.lo a.lo) (nat_cmp b.hi a.hi)) (nat_cmp a.doc b.doc)

-- places, in the order of their brackets
abbrev pub place_cmp : List Bracket → ℕ → ℕ → Ordering
place_cmp brackets i j = bracket_cmp (bracket_at brackets i) (bracket_at brackets j)

-- no lower bound is above its upper bound
abbrev pub AreBrackets : List Bracket → Type 0
AreBrackets brackets = All (λ (b : Bracket). b.lo ≤ b.hi) brackets

-- the places of the first r brackets in that order, or of all if there are fewer
pub record IsChosen (brackets : List Bracket) (r : ℕ) (picks : List ℕ) : Type 0 where
  pub all : List ℕ
  pub same : IsPermutation (range_with_len 0 (length brackets)) all
  pub ordered : IsSorted (place_cmp brackets) all
  pub first : picks ≡ take r all

-- Places of brackets can be put in the order of their brackets, so brackets have a chosen answer.
use Rattle.std.proofs.Common.{◌≡◌, ◌<◌, ◌+◌, ℕ, zero, suc, Bool, true, false, cond, List, [], ◌∷◌, length, take, get_or, refl, arith, add-one}
use Rattle.std.specs.List.{range_with_len}
use Rattle.std.specs.List.Sorted.{IsPermutation, IsSortedBy}
use Rattle.std.specs.Ordering.{is_lt}
use Rattle.std.proofs.lemmas.List.Sorted.{IsPermutation-cons, IsPermutation-refl, IsPermutation-swap, IsPermutation-trans}
use Rattle.std.proofs.lemmas.List.MinMax.{ranks_by}
use Rattle.ats_bound.specs.declared.bracket.Bracket.{Bracket}
use Rattle.ats_bound.specs.Settled.{bracket_at}
use Rattle.ats_bound.specs.Chosen.{IsChosen, place_cmp}
use Rattle.ats_bound.proofs.OneAnswer.{bracket_cmp_total}

-- each is not after the next, by a test that never holds both ways
module _ {X : Type 0} (lt : X → X → Bool) (one_way : (x y : X) → lt x y ≡ true → lt y x ≡ false) where
  -- x among sorted items, before the first that is not less
  abbrev put : X → List X → List X
  put x [] = x ∷ []
  put x (y ∷ ys) = cond (lt y x) (y ∷ put x ys) (x ∷ y ∷ ys)

  abbrev sort : List X → List X
  sort [] = []
  sort (x ∷ xs) = put x (sort xs)

  -- x is not above the first item
  abbrev Leads : X → List X → Type 0
  Leads x [] = Unit {0}
  Leads x (y ∷ ys) = lt y x ≡ false

  abbrev IsOrdered : List X → Type 0
  IsOrdered [] = Unit {0}
  IsOrdered (x ∷ xs) = Leads x xs × IsOrdered xs

  -- x put among items; the flag is whether the first is less
  abbrev placed : X → X → List X → Bool → List X
  placed x y ys less = cond less (y ∷ put x ys) (x ∷ y ∷ ys)

  leads_placed : (z x y : X) (ys : List X) (less : Bool) → lt x z ≡ false → lt y z ≡ false → Leads z (placed x y ys less)
  leads_placed z x y ys true first lead = lead
  leads_placed z x y ys false first lead = first

  put_leads : (z x : X) (xs : List X) → lt x z ≡ false → Leads z xs → Leads z (put x xs)
  put_leads z x [] first lead = first
  put_leads z x (y ∷ ys) first lead = leads_placed z x y ys (lt y x) first lead

  ordered_placed : (x y : X) (ys : List X) (less : Bool) → lt y x ≡ less → IsOrdered (y ∷ ys) → IsOrdered (put x ys) → IsOrdered (placed x y ys less)
  ordered_placed x y ys true is ordered later = (put_leads y x ys (one_way y x is) ordered.0, later)
  ordered_placed x y ys false is ordered later = (is, ordered)

  put_ordered : (x : X) (xs : List X) → IsOrdered xs → IsOrdered (put x xs)
  put_ordered x [] ordered = (tt, tt)
  put_ordered x (y ∷ ys) ordered = ordered_placed x y ys (lt y x) refl ordered (put_ordered x ys ordered.1)

  sort_ordered : (xs : List X) → IsOrdered (sort xs)
  sort_ordered [] = tt
  sort_ordered (x ∷ xs) = put_ordered x (sort xs) (sort_ordered xs)

  same_placed : (x y : X) (ys : List X) (less : Bool) → IsPermutation (x ∷ ys) (put x ys) → IsPermutation (x ∷ y ∷ ys) (placed x y ys less)
  same_placed x y ys true later =
      let exchanged : IsPermutation (x ∷ y ∷ ys) (y ∷ x ∷ ys) = IsPermutation-swap (x ∷ y ∷ ys) (y ∷ x ∷ ys) 0 1 (omega arith) (omega arith) refl in
      IsPermutation-trans (x ∷ y ∷ ys) (y ∷ x ∷ ys) (y ∷ put x ys) exchanged (IsPermutation-cons y (x ∷ ys) (put x ys) later)
  same_placed x y ys false later = IsPermutation-refl (x ∷ y ∷ ys)

  put_same : (x : X) (xs : List X) → IsPermutation (x ∷ xs) (put x xs)
  put_same x [] = IsPermutation-refl (x ∷ [])
  put_same x (y ∷ ys) = same_placed x y ys (lt y x) (put_same x ys)

  sort_same : (xs : List X) → IsPermutation xs (sort xs)
  sort_same [] = IsPermutation-refl []
  sort_same (x ∷ xs) =
      IsPermutation-trans (x ∷ xs) (x ∷ sort xs) (put x (sort xs)) (IsPermutation-cons x xs (sort xs) (sort_same xs)) (put_same x (sort xs))

  sorted_of : (xs : List X) → IsOrdered xs → (k : ℕ) (d : X) → k + 1 < length xs → lt (get_or xs (suc k) d) (get_or xs k d) ≡ false
  sorted_of [] ordered k d inside = absurd (omega (arith, inside))
  sorted_of (x ∷ []) ordered k d inside = absurd (omega (arith, inside))
  sorted_of (x ∷ y ∷ ys) ordered zero d inside = ordered.0
  sorted_of (x ∷ y ∷ ys) ordered (suc k) d inside = sorted_of (y ∷ ys) ordered.1 k d (omega (arith, inside))

  -- items can be put in order
  pub sorts : (xs : List X) → (ys : List X) × IsPermutation xs ys × IsSortedBy lt ys
  sorts xs = (sort xs, sort_same xs, λ k d low inside. rw add-one (sorted_of (sort xs) (sort_ordered xs) k d inside))

-- brackets have a chosen answer
pub chosen_exists : (brackets : List Bracket) (r : ℕ) → (picks : List ℕ) × IsChosen brackets r picks
chosen_exists brackets r =
    let order = ranks_by bracket_cmp_total (bracket_at brackets) in
    let found = sorts (λ (i : ℕ) (j : ℕ). is_lt (place_cmp brackets i j)) order.one_way (range_with_len 0 (length brackets)) in
    (take r found.0, record { all = found.0; same = found.1; ordered = found.2; first = refl })

-- Rows of which one is always wholly above the other fall once they are merged.
use Rattle.std.proofs.Common.{◌≡◌, ◌⊎◌, ◌<◌, ◌≤◌, ◌+◌, ℕ, zero, suc, true, false, List, [], ◌∷◌, length, sym, subst, ap, inl, inr, arith}
use Rattle.std.specs.List.{All, AllPairs}
use Rattle.std.proofs.lemmas.Bool.{cases_Bool}
use Rattle.std.proofs.lemmas.Bool.Decides.{nat_tests}
use Rattle.std.proofs.lemmas.List.Elements.{All-head, All-tail, All-cons, All-weaker}
use Rattle.ats_catalog_check.specs.declared.row.CatalogRow.{CatalogRow}
use Rattle.ats_catalog_check.specs.Merge.{precedes, merge, row_at}
use Rattle.ats_catalog_check.proofs.Public.{all_merged, step_first, step_later}

-- a row is wholly below another
abbrev pub IsUnder : CatalogRow → CatalogRow → Type 0
IsUnder above row = row.upper ≤ above.lower

abbrev pub AreApart : CatalogRow → CatalogRow → Type 0
AreApart a b = IsUnder a b ⊎ IsUnder b a

-- each row is above all later ones
abbrev pub Fall : List CatalogRow → Type 0
Fall [] = Unit {0}
Fall (row ∷ rows) = All (IsUnder row) rows × Fall rows

pub fall_next : (rows : List CatalogRow) → Fall rows → (k : ℕ) → k + 1 < length rows → (row_at rows (k + 1)).upper ≤ (row_at rows k).lower
fall_next [] fall k inside = absurd (omega (arith, inside))
fall_next (row ∷ rows) fall zero inside = fall.0 0 _ (omega (arith, inside))
fall_next (row ∷ rows) fall (suc k) inside =
    let next : suc (k + 1) ≡ suc k + 1 = omega arith in
    subst (λ (n : ℕ). (row_at (row ∷ rows) n).upper ≤ (row_at rows k).lower) next (fall_next rows fall.1 k (omega (arith, inside)))

pub fall_pairs : (rows : List CatalogRow) → AllPairs IsUnder rows → Fall rows
fall_pairs [] pairs = tt
fall_pairs (row ∷ rows) pairs =
    (λ k d low. pairs 0 (suc k) d (omega arith) (omega (arith, low)), fall_pairs rows (λ i j d less inside. pairs (suc i) (suc j) d (omega (arith, less)) (omega (arith, inside))))

-- of two rows that are apart the merge takes the upper one first
later_over : (row later : CatalogRow) → row.lower ≤ row.upper → later.lower ≤ later.upper → AreApart row later → precedes later row ≡ true → IsUnder later row
later_over row later proper also (inr under) is = under
later_over row later proper also (inl over) is = grind (arith, nat_tests)

first_over : (row later : CatalogRow) → row.lower ≤ row.upper → later.lower ≤ later.upper → AreApart row later → precedes later row ≡ false → IsUnder row later
first_over row later proper also (inl under) not = under
first_over row later proper also (inr over) not = grind (arith, nat_tests)

-- rows of two kinds, which are in order and apart
module _ (P Q : CatalogRow → Type 0) (proper : (row : CatalogRow) → P row → row.lower ≤ row.upper) (also : (row : CatalogRow) → Q row → row.lower ≤ row.upper)
    (apart : (a b : CatalogRow) → P a → Q b → AreApart a b) where
  before_falls : (row : CatalogRow) (rows : List CatalogRow) → All P (row ∷ rows) → Fall (row ∷ rows)
      → ((later : List CatalogRow) → All Q later → Fall later → Fall (merge rows later))
      → (later : List CatalogRow) → All Q later → Fall later → Fall (merge (row ∷ rows) later)
  before_falls row rows own fall next [] each falling =
      (all_merged (IsUnder row) rows [] fall.0 (λ k d low. absurd (omega (arith, low))), next [] each falling)
  before_falls row rows own fall next (x ∷ later) each falling =
      let here : P row = All-head P row rows own in
      let there : Q x = All-head Q x later each in
      elim (cases_Bool (precedes x row)) [
        | inl is ↦
            let under : IsUnder x row = later_over row x (proper row here) (also x there) (apart row x here there) is in
            let all : All (IsUnder x) (row ∷ rows) = All-cons (IsUnder x) row rows under
            (All-weaker (IsUnder row) (IsUnder x) (λ one low. omega (arith, low, proper row here, under)) rows fall.0) in
            subst Fall (sym (step_later row (merge rows) x later is))
            (all_merged (IsUnder x) (row ∷ rows) later all falling.0, before_falls row rows own fall next later (All-tail Q x later each) falling.1)
        | inr not ↦
            let under : IsUnder row x = first_over row x (proper row here) (also x there) (apart row x here there) not in
            let all : All (IsUnder row) (x ∷ later) = All-cons (IsUnder row) x later under
            (All-weaker (IsUnder x) (IsUnder row) (λ one low. omega (arith, low, also x there, under)) later falling.0) in
            subst Fall (sym (step_first row (merge rows) x later not))
            (all_merged (IsUnder row) rows (x ∷ later) fall.0 all, next (x ∷ later) each falling)
      ]

  pub merge_falls : (rows later : List CatalogRow) → All P rows → All Q later → Fall rows → Fall later → Fall (merge rows later)
  merge_falls [] later own each fall falling = falling
  merge_falls (row ∷ rows) later own each fall falling =
      before_falls row rows own fall (λ next all falls. merge_falls rows next (All-tail P row rows own) all fall.1 falls) later each falling

-- a merge has all rows
before_length : (row : CatalogRow) (rows : List CatalogRow) → ((later : List CatalogRow) → length (merge rows later) ≡ length rows + length later)
    → (later : List CatalogRow) → length (merge (row ∷ rows) later) ≡ length (row ∷ rows) + length later
before_length row rows next [] = omega (arith, next [])
before_length row rows next (x ∷ later) = elim (cases_Bool (precedes x row)) [
  | inl is ↦ omega (arith, ap (λ (l : List CatalogRow). length l) (step_later row (merge rows) x later is), before_length row rows next later)
  | inr not ↦ omega (arith, ap (λ (l : List CatalogRow). length l) (step_first row (merge rows) x later not), next (x ∷ later))
]

pub merge_length : (rows later : List CatalogRow) → length (merge rows later) ≡ length rows + length later
merge_length [] later = omega arith
merge_length (row ∷ rows) later = before_length row rows (merge_length rows) later

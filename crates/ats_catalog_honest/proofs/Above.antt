-- Of a ranking, the rows that score above a number come first.
use Rattle.std.proofs.Common.{◌≡◌, ◌<◌, ◌≤◌, ◌∙◌, ℕ, zero, suc, Bool, true, false, nat_lt, cond, List, [], ◌∷◌, length, get_or, ap, refl, inl, inr, arith}
use Rattle.std.specs.List.{filter}
use Rattle.std.specs.List.Sorted.{IsStrictlySortedBy}
use Rattle.std.proofs.lemmas.Bool.{cases_Bool, le-ltb, lt-ltb, ltb-false}
use Rattle.std.proofs.lemmas.Map.Keys.{Less-from_sorted, sorted_tail}
use Rattle.ats_catalog_honest.specs.Ranking.{Ranked, ranked_cmp}
use Rattle.ats_catalog_honest.proofs.Edges.{score_le}

-- what is past the last row
abbrev pub none : Ranked
none = record { shard = 0; doc = 0; score = 0 }

later_low : (x : Ranked) (xs : List Ranked) → IsStrictlySortedBy ranked_cmp (x ∷ xs) → (k : ℕ) → k < length xs → (get_or xs k none).score ≤ x.score
later_low x xs sorted k low = score_le x (get_or xs k none) (Less-from_sorted ranked_cmp (x ∷ xs) 0 (suc k) none sorted (omega arith) (omega (arith, low)))

-- whether a row scores above a number
abbrev pub is_above : ℕ → Ranked → Bool
is_above least one = nat_lt least one.score

none_above : (least : ℕ) (xs : List Ranked) → ((k : ℕ) → k < length xs → (get_or xs k none).score ≤ least) → filter (is_above least) xs ≡ []
none_above least [] low = refl
none_above least (x ∷ xs) low =
    let not : is_above least x ≡ false = le-ltb least x.score (low 0 (omega arith)) in
    ap (λ b. cond b (x ∷ filter (is_above least) xs) (filter (is_above least) xs)) not ∙ none_above least xs (λ k inside. low (suc k) (omega (arith, inside)))

same_next : (x : Ranked) (xs front : List Ranked) → ((k : ℕ) → k < length front → get_or front k none ≡ get_or xs k none)
    → (k : ℕ) → k < length (x ∷ front) → get_or (x ∷ front) k none ≡ get_or (x ∷ xs) k none
same_next x xs front same zero low = refl
same_next x xs front same (suc k) low = same k (omega (arith, low))

module _ (least : ℕ) where
  abbrev front_of : List Ranked → List Ranked
  front_of xs = filter (is_above least) xs

  front_with : (x : Ranked) (xs : List Ranked) → is_above least x ≡ true → front_of (x ∷ xs) ≡ x ∷ front_of xs
  front_with x xs is = ap (λ b. cond b (x ∷ front_of xs) (front_of xs)) is

  front_none : (x : Ranked) (xs : List Ranked) → IsStrictlySortedBy ranked_cmp (x ∷ xs) → is_above least x ≡ false → front_of (x ∷ xs) ≡ []
  front_none x xs sorted not =
      none_above least (x ∷ xs) (first_low x xs (λ k low. later_low x xs sorted k low) (ltb-false least x.score not))
    where
      first_low : (x : Ranked) (xs : List Ranked) → ((k : ℕ) → k < length xs → (get_or xs k none).score ≤ x.score) → x.score ≤ least
          → (k : ℕ) → k < length (x ∷ xs) → (get_or (x ∷ xs) k none).score ≤ least
      first_low x xs each here zero low = here
      first_low x xs each here (suc k) low = omega (arith, each k (omega (arith, low)), here)

  pub front_same : (xs : List Ranked) → IsStrictlySortedBy ranked_cmp xs → (k : ℕ) → k < length (front_of xs) → get_or (front_of xs) k none ≡ get_or xs k none
  front_same [] sorted k low = refl
  front_same (x ∷ xs) sorted k low = elim (cases_Bool (is_above least x)) [
    | inl is ↦
        let made : front_of (x ∷ xs) ≡ x ∷ front_of xs = front_with x xs is in
        ap (λ (l : List Ranked). get_or l k none) made
        ∙ same_next x xs (front_of xs) (front_same xs (sorted_tail ranked_cmp x xs sorted)) k (omega (arith, low, ap (λ (l : List Ranked). length l) made))
    | inr not ↦ absurd (omega (arith, low, ap (λ (l : List Ranked). length l) (front_none x xs sorted not)))
  ]

  pub front_all : (xs : List Ranked) → IsStrictlySortedBy ranked_cmp xs → (k : ℕ) → k < length xs → least < (get_or xs k none).score → k < length (front_of xs)
  front_all [] sorted k low more = absurd (omega (arith, low))
  front_all (x ∷ xs) sorted zero low more = omega (arith, ap (λ (l : List Ranked). length l) (front_with x xs (lt-ltb least x.score more)))
  front_all (x ∷ xs) sorted (suc k) low more =
      let over : least < x.score = omega (arith, more, later_low x xs sorted k (omega (arith, low))) in
      omega (
        arith,
        ap (λ (l : List Ranked). length l) (front_with x xs (lt-ltb least x.score over)),
        front_all xs (sorted_tail ranked_cmp x xs sorted) k (omega (arith, low)) more,
      )

-- Why no answer can be settled: brackets around the smallest of the best, and overlapping ones that go above it.
use Rattle.std.proofs.Common.{◌≡◌, ◌⊎◌, ◌<◌, ◌≤◌, ◌+◌, ◌-◌, ◌∷◌, ℕ, zero, suc, List, [], length, map, set, get_or, refl, sym, ap, ◌∙◌, arith, inl, inr, length-set, get_or-set_same, get_or-set_other}
use Rattle.std.specs.List.{All, sum_by}
use Rattle.std.proofs.lemmas.Bool.{cases_eq, cases_lt, cases_order}
use Rattle.ats_impact.specs.Rank.{times}
use Rattle.ats_bound.specs.declared.bracket.Bracket.{Bracket}
use Rattle.ats_bound.specs.Chosen.{AreBrackets}
use Rattle.ats_bound.specs.Settled.{ArePicks, IsSettled, bracket_at, last_row, row}
use Rattle.ats_bound.specs.Inner.Best.{count_at_least}
use Rattle.std.proofs.lemmas.List.Elements.{All-head, All-tail}
use Rattle.std.proofs.lemmas.List.Sums.{sum_by-cons, sum_by-le-sum_by}
use Rattle.ats_bound.proofs.Kept.{count_set, count_none, reached, reached_no}
use Rattle.ats_bound.proofs.Places.{position_of, times_other}

module _ (brackets : List Bracket) (picks : List ℕ) (threshold r : ℕ) (proper : AreBrackets brackets) (are : ArePicks brackets picks) (is : IsSettled brackets picks threshold r)
    (more : 0 < threshold) (rows : 0 < r) where
  -- it has r rows
  pub full : length picks ≡ r
  full = elim is.whole [ inl all ↦ all | inr none ↦ absurd (omega (arith, none.1, more)) ]

  abbrev least : ℕ
  least = (last_row brackets picks).lo

  in_order : (k : ℕ) → k < length picks → (row brackets picks k).lo ≤ (row brackets picks k).hi
  in_order k inside = proper (get_or picks k 0) (record { doc = 0; lo = 0; hi = 0 }) (are k 0 inside)

  falls_by : (m k : ℕ) → k + suc m < length picks → (row brackets picks (k + suc m)).hi ≤ (row brackets picks k).lo
  falls_by zero k inside =
      let step : k + suc zero ≡ k + 1 = omega arith in
      rw step (is.falling k (omega (arith, inside)))
  falls_by (suc m) k inside =
      let step : k + suc (suc m) ≡ (k + suc m) + 1 = omega arith in
      let here : (row brackets picks ((k + suc m) + 1)).hi ≤ (row brackets picks (k + suc m)).lo = is.falling (k + suc m) (omega (arith, inside)) in
      rw step (omega (arith, here, in_order (k + suc m) (omega (arith, inside)), falls_by m k (omega (arith, inside))))

  -- a later row goes no higher than an earlier one scores at least
  pub falls : (j k : ℕ) → j < k → k < length picks → (row brackets picks k).hi ≤ (row brackets picks j).lo
  falls j k less inside =
      let step : j + suc (k - j - 1) ≡ k = omega (arith, less) in
      rw step at (falls_by (k - j - 1) j (omega (arith, inside, less)))

  pub above_least : (k : ℕ) → k < length picks → least ≤ (row brackets picks k).lo
  above_least k inside = elim (cases_lt k (length picks - 1)) [
    | inl less ↦ omega (arith, falls k (length picks - 1) less (omega (arith, inside)), in_order (length picks - 1) (omega (arith, inside)))
    | inr last ↦
        let same : k ≡ length picks - 1 = omega (arith, last, inside) in
        rw same (omega arith)
  ]

  -- a bracket is either in the answer, at some row, or outside and within the smallest
  pub found : (i : ℕ) → i < length brackets → ((k : ℕ) × (k < length picks) × (get_or picks k 0 ≡ i)) ⊎ ((bracket_at brackets i).hi ≤ least)
  found i inside = elim (cases_lt 0 (times i picks)) [
    | inl some ↦ inl (position_of i picks some)
    | inr none ↦ inr (is.rest i (inside, omega (arith, none)) (omega (arith, full, rows)))
  ]

  -- no two brackets overlap, unless neither goes above the last row
  pub no_overlap : (i j : ℕ) → i < length brackets → j < length brackets → (i ≡ j → ⊥) → (bracket_at brackets j).lo < (bracket_at brackets i).hi → (bracket_at brackets i).lo < (bracket_at brackets j).hi
      → ((bracket_at brackets i).hi ≤ least) × ((bracket_at brackets j).hi ≤ least)
  no_overlap i j low also differ first second = elim (found i low) [
    | inl one ↦ elim (found j also) [
      | inl two ↦ elim (cases_order one.0 two.0) [
        | inl same ↦ absurd (differ (sym one.2 ∙ ap (λ k. get_or picks k 0) same ∙ two.2))
        | inr other ↦ elim other [
          | inl less ↦ absurd (omega (arith, rw (one.2, two.2) at (falls one.0 two.0 less two.1), second))
          | inr greater ↦ absurd (omega (arith, rw (one.2, two.2) at (falls two.0 one.0 greater one.1), first))
        ]
      ]
      | inr out ↦ absurd (omega (arith, rw one.2 at (above_least one.0 one.1), out, second))
    ]
    | inr out ↦ elim (found j also) [
      | inl two ↦ absurd (omega (arith, rw two.2 at (above_least two.0 two.1), out, first))
      | inr out_too ↦ (out, out_too)
    ]
  ]

-- ---- how many values reach a number

pub sum_of_map : {X Y : Type 0} (g : Y → ℕ) (f : X → Y) (xs : List X) → sum_by g (map f xs) ≡ sum_by (λ x. g (f x)) xs
sum_of_map g f [] = refl
sum_of_map g f (x ∷ xs) = omega (arith, sum_by-cons g (f x) (map f xs), sum_by-cons (λ y. g (f y)) x xs, sum_of_map g f xs)

-- if each place at which a value reaches the number is among some places, as many values reach it as at those places
pub few_above : (least : ℕ) (places xs : List ℕ) → 1 ≤ least → ((i : ℕ) → i < length xs → least ≤ get_or xs i 0 → 1 ≤ times i places) → All (λ (p : ℕ). p < length xs) places
    → count_at_least least xs ≤ sum_by (λ p. reached least (get_or xs p 0)) places
few_above least [] xs some each low =
    let none : count_at_least least xs ≡ 0 = count_none least xs (λ i inside. elim (cases_lt (get_or xs i 0) least) [
      | inl less ↦ less
      | inr le ↦ absurd (omega (arith, each i inside le))
    ]) in
    omega (arith, none)
few_above least (p ∷ places) xs some each low =
    let first : p < length xs = All-head (λ (p : ℕ). p < length xs) p places low in
    let after : List ℕ = set xs p 0 in
    let size : length after ≡ length xs = length-set xs p 0 in
    let later : count_at_least least after ≤ sum_by (λ q. reached least (get_or after q 0)) places = few_above least places after some (λ i inside le. elim (cases_eq i p) [
      | inl same ↦
          let zero_there : get_or after i 0 ≡ 0 = ap (λ n. get_or after n 0) same ∙ get_or-set_same xs p 0 0 first in
          absurd (omega (arith, zero_there, le, some))
      | inr differ ↦
          let is : get_or after i 0 ≡ get_or xs i 0 = get_or-set_other xs p i 0 0 differ in
          let there : 1 ≤ times i (p ∷ places) = each i (omega (arith, inside, size)) (omega (arith, is, le)) in
          let no : times i (p ∷ places) ≡ times i places = times_other i p places (elim (cases_order p i) [
            | inl same ↦ absurd (differ (sym same))
            | inr other ↦ other
          ]) in
          omega (arith, there, no)
    ]) (λ i d inside. omega (arith, size, All-tail (λ (p : ℕ). p < length xs) p places low i d inside)) in
    let less : sum_by (λ q. reached least (get_or after q 0)) places ≤ sum_by (λ q. reached least (get_or xs q 0)) places = sum_by-le-sum_by (λ q. reached least (get_or after q 0)) (λ q. reached least (get_or xs q 0)) places (λ q. elim (cases_eq q p) [
      | inl same ↦
          let zero_there : get_or after q 0 ≡ 0 = ap (λ n. get_or after n 0) same ∙ get_or-set_same xs p 0 0 first in
          omega (arith, ap (reached least) zero_there, reached_no least 0 some)
      | inr differ ↦ omega (arith, ap (reached least) (get_or-set_other xs p q 0 0 differ))
    ]) in
    omega (arith, count_set least xs p 0 first, reached_no least 0 some, later, less, sum_by-cons (λ q. reached least (get_or xs q 0)) p places)

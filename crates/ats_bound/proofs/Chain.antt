-- The chosen answer is settled if any answer is.
use Rattle.std.proofs.Common.{◌≡◌, ◌⊎◌, ◌<◌, ◌≤◌, ◌+◌, ◌-◌, ◌*◌, min, ℕ, zero, suc, true, false, nat_eq, cond, List, length, take, drop, get_or, refl, sym, ap, ◌∙◌, inl, inr, arith, take_all, length-take, length-drop, drop-cons}
use Rattle.std.specs.List.{All, sum_by, range_with_len}
use Rattle.std.specs.Ordering.{nat_cmp, is_lt}
use Rattle.std.specs.declared.cmp.Ordering.TheVariants.{Less, Equal}
use Rattle.std.specs.List.Sorted.{IsPermutation, IsSorted}
use Rattle.std.proofs.lemmas.Bool.{cases_lt, cases_order}
use Rattle.std.proofs.lemmas.Bool.Decides.{nat_tests}
use Rattle.std.proofs.lemmas.List.{get_or-take, get_or-drop}
use Rattle.std.proofs.lemmas.List.Elements.{All-take}
use Rattle.std.proofs.lemmas.List.FromFn.{length-range_with_len}
use Rattle.std.proofs.lemmas.List.Sums.{sum_by-cons, sum_by-le, sum_by-take-drop}
use Rattle.std.proofs.lemmas.List.Sorted.{All-permutation, length_permutation, sum_by-IsPermutation}
use Rattle.ats_impact.specs.Rank.{times}
use Rattle.ats_bound.specs.declared.bracket.Bracket.{Bracket}
use Rattle.ats_bound.specs.Settled.{ArePicks, IsOutside, IsSettled, bracket_at, row, last_row}
use Rattle.ats_bound.specs.Chosen.{AreBrackets, IsChosen, bracket_cmp, place_cmp}
use Rattle.ats_bound.proofs.Places.{counted_places, few_places, some_place, position_of, stands, stands_twice, range_once, range_has, range_below}

-- b is not before a
abbrev pub NotBefore : Bracket → Bracket → Type 0
NotBefore a b = (b.lo ≤ a.lo) × (a.lo ≤ b.lo → b.hi ≤ a.hi)

lower_of : (a b : Bracket) → is_lt (bracket_cmp b a) ≡ false → b.lo ≤ a.lo
lower_of a b not_less = elim (cases_lt a.lo b.lo) [
  | inr le ↦ le
  | inl less ↦
      let test : nat_cmp a.lo b.lo ≡ Less = grind (arith, nat_tests) in
      let clash : true ≡ false = rw test at not_less in
      absurd (cc)
]

upper_of : (a b : Bracket) → is_lt (bracket_cmp b a) ≡ false → b.lo ≡ a.lo → b.hi ≤ a.hi
upper_of a b not_less same = elim (cases_lt a.hi b.hi) [
  | inr le ↦ le
  | inl less ↦
      let tied : nat_cmp a.lo b.lo ≡ Equal = grind (arith, nat_tests) in
      let test : nat_cmp a.hi b.hi ≡ Less = grind (arith, nat_tests) in
      let clash : true ≡ false = rw (tied, test) at not_less in
      absurd (cc)
]

not_before : (a b : Bracket) → is_lt (bracket_cmp b a) ≡ false → NotBefore a b
not_before a b not_less =
    let low : b.lo ≤ a.lo = lower_of a b not_less in
    (low, λ (le : a.lo ≤ b.lo). upper_of a b not_less (omega (arith, low, le)))

not_before_trans : (a b c : Bracket) → NotBefore a b → NotBefore b c → NotBefore a c
not_before_trans a b c first second =
    let one : b.lo ≤ a.lo = first.0 in
    let two : c.lo ≤ b.lo = second.0 in (
      omega (arith, one, two),
      λ (le : a.lo ≤ c.lo).
          let up : b.hi ≤ a.hi = first.1 (omega (arith, two, le)) in
          let upper : c.hi ≤ b.hi = second.1 (omega (arith, one, le)) in
          omega (arith, up, upper),
    )

module _ (brackets : List Bracket) (all : List ℕ) (ordered : IsSorted (place_cmp brackets) all) where
  abbrev at : ℕ → Bracket
  at p = bracket_at brackets (get_or all p 0)

  falls_by : (m p : ℕ) → p + suc m < length all → NotBefore (at p) (at (p + suc m))
  falls_by zero p inside =
      let step : p + suc zero ≡ p + 1 = omega arith in
      rw step (not_before (at p) (at (p + 1)) (ordered p 0 (omega arith) (omega (arith, inside))))
  falls_by (suc m) p inside =
      let step : p + suc (suc m) ≡ (p + suc m) + 1 = omega arith in
      let here : NotBefore (at (p + suc m)) (at ((p + suc m) + 1)) =
      not_before (at (p + suc m)) (at ((p + suc m) + 1)) (ordered (p + suc m) 0 (omega arith) (omega (arith, inside))) in
      rw step (not_before_trans (at p) (at (p + suc m)) (at ((p + suc m) + 1)) (falls_by m p (omega (arith, inside))) here)

  -- a later place is not before an earlier one in the order
  pub falls : (p q : ℕ) → p < q → q < length all → NotBefore (at p) (at q)
  falls p q less inside =
      let step : p + suc (q - p - 1) ≡ q = omega arith in
      rw step at (falls_by (q - p - 1) p (omega (arith, inside)))

-- sorted places
module _ (brackets : List Bracket) (all : List ℕ) (same : IsPermutation (range_with_len 0 (length brackets)) all) where
  abbrev put : ℕ → Bracket
  put p = bracket_at brackets (get_or all p 0)

  abbrev total : ℕ
  total = length brackets

  below : All (λ i. i < total) all
  below = All-permutation (λ i. i < total) _ _ same (range_below total)

  times_all : (i : ℕ) → times i all ≡ times i (range_with_len 0 total)
  times_all i = sum_by-IsPermutation (λ x. cond (nat_eq x i) 1 0) _ _ same

  once_all : (i : ℕ) → times i all ≤ 1
  once_all i = omega (arith, times_all i, range_once i 0 total)

  size : length all ≡ total
  size = length_permutation _ _ same ∙ length-range_with_len 0 total

  count_split : (r i : ℕ) → times i (take r all) + times i (drop r all) ≡ times i all
  count_split r i = sum_by-take-drop (λ x. cond (nat_eq x i) 1 0) all r

  -- a place that is not among the first is a later one
  pub later_place : (r i : ℕ) → IsOutside brackets (take r all) i → (p : ℕ) × (r ≤ p) × (p < length all) × (get_or all p 0 ≡ i)
  later_place r i out =
      let there : 1 ≤ times i (drop r all) = omega (arith, times_all i, range_has i total out.0, count_split r i, out.1) in
      let found = position_of i (drop r all) there in
      (r + found.0, omega arith, omega (arith, found.1, length-drop r all), sym (get_or-drop r all found.0 0) ∙ found.2)

  -- and a later one is not among the first
  pub later_is_outside : (r p : ℕ) → r ≤ p → p < length all → IsOutside brackets (take r all) (get_or all p 0)
  later_is_outside r p after inside =
      let i : ℕ = get_or all p 0 in
      let is : get_or (drop r all) (p - r) 0 ≡ i = get_or-drop r all (p - r) 0 ∙ ap (λ n. get_or all n 0) (omega (arith, after)) in
      let there : 1 ≤ times i (drop r all) = rw is at (stands (drop r all) (p - r) (omega (arith, inside, after, length-drop r all))) in
      (below p 0 inside, omega (arith, there, count_split r i, once_all i))

  -- their first ones are settled, if each scores at least what any later one can score, and nothing that is not met can score more
  module _ (threshold r : ℕ) (falls : (p q : ℕ) → p < q → q < length all → p < r → (put q).hi ≤ (put p).lo) (none : total < r → threshold ≡ 0)
      (unmet : 0 < length (take r all) → 0 < threshold → threshold ≤ (put (length (take r all) - 1)).lo) where
    whole_size : length (take r all) ≡ min r total
    whole_size = rw size at (length-take r all)

    row_is : (k : ℕ) → k < length (take r all) → get_or (take r all) k 0 ≡ get_or all k 0
    row_is k low = get_or-take r all k 0 (omega (arith, low, whole_size))

    whole : (length (take r all) ≡ r) ⊎ (((i : ℕ) → i < total → 1 ≤ times i (take r all)) × (threshold ≡ 0))
    whole = elim (cases_lt total r) [
      | inr long ↦ inl (omega (arith, whole_size, long))
      | inl short ↦
          let all_of : take r all ≡ all = take_all r all (omega (arith, size, short)) in
          inr ((λ (i : ℕ) (low : i < total). rw all_of (omega (arith, times_all i, range_has i total low))), none short)
    ]

    falling : (k : ℕ) → k + 1 < length (take r all) → (row brackets (take r all) (k + 1)).hi ≤ (row brackets (take r all) k).lo
    falling k low =
        let here : k < length (take r all) = omega (arith, low) in
        rw (row_is (k + 1) low, row_is k here) (falls k (k + 1) (omega arith) (omega (arith, low, whole_size, size)) (omega (arith, low, whole_size)))

    abbrev last : ℕ
    last = length (take r all) - 1

    rest : (i : ℕ) → IsOutside brackets (take r all) i → 0 < length (take r all) → (bracket_at brackets i).hi ≤ (last_row brackets (take r all)).lo
    rest i out some =
        let found = later_place r i out in
        let few : last < r = omega (arith, some, whole_size) in
        rw (row_is last (omega arith)) (rw found.3 at (falls last found.0 (omega (arith, few, found.1)) found.2 few))

    places_settled : IsSettled brackets (take r all) threshold r
    places_settled = record {
      once = λ i. omega (arith, count_split r i, once_all i);
      most = omega (arith, whole_size);
      whole = whole;
      falling = falling;
      rest = rest;
      unmet = λ some more. rw (row_is last (omega arith)) (unmet some more);
    }

module _ (brackets : List Bracket) (threshold r : ℕ) (answer all : List ℕ) (proper : AreBrackets brackets)
    (inside : ArePicks brackets answer) (settled : IsSettled brackets answer threshold r)
    (same : IsPermutation (range_with_len 0 (length brackets)) all) (ordered : IsSorted (place_cmp brackets) all) where
  abbrev of : ℕ → Bracket
  of i = bracket_at brackets i

  abbrev n : ℕ
  n = length brackets

  proper_at : (i : ℕ) → i < n → (of i).lo ≤ (of i).hi
  proper_at i low = proper i (record { doc = 0; lo = 0; hi = 0 }) low

  chain : (m k : ℕ) → k + suc m < length answer → (row brackets answer (k + suc m)).hi ≤ (row brackets answer k).lo
  chain zero k low =
      let step : k + suc zero ≡ k + 1 = omega arith in
      rw step (settled.falling k (omega (arith, low)))
  chain (suc m) k low =
      let step : k + suc (suc m) ≡ (k + suc m) + 1 = omega arith in
      let here : (row brackets answer ((k + suc m) + 1)).hi ≤ (row brackets answer (k + suc m)).lo = settled.falling (k + suc m) (omega (arith, low)) in
      let middle : (row brackets answer (k + suc m)).lo ≤ (row brackets answer (k + suc m)).hi = proper_at (get_or answer (k + suc m) 0) (inside (k + suc m) 0 (omega (arith, low))) in
      rw step (omega (arith, here, middle, chain m k (omega (arith, low))))

  -- a later row can score at most the least that an earlier row scores
  rows_fall : (j k : ℕ) → j < k → k < length answer → (row brackets answer k).hi ≤ (row brackets answer j).lo
  rows_fall j k less low =
      let step : j + suc (k - j - 1) ≡ k = omega arith in
      rw step at (chain (k - j - 1) j (omega (arith, low)))

  abbrev floor : ℕ
  floor = (last_row brackets answer).lo

  row_floor : (k : ℕ) → k < length answer → floor ≤ (row brackets answer k).lo
  row_floor k low = elim (cases_lt k (length answer - 1)) [
    | inl less ↦
        let last : length answer - 1 < length answer = omega arith in
        let here : (last_row brackets answer).lo ≤ (last_row brackets answer).hi = proper_at (get_or answer (length answer - 1) 0) (inside (length answer - 1) 0 last) in
        omega (arith, here, rows_fall k (length answer - 1) less last)
    | inr le ↦
        let is : k ≡ length answer - 1 = omega arith in
        rw is (omega arith)
  ]

  -- a bracket of the answer scores at least the least that its last row scores
  pick_floor : (i : ℕ) → 1 ≤ times i answer → floor ≤ (of i).lo
  pick_floor i some =
      let found = position_of i answer some in
      rw found.2 at (row_floor found.0 found.1)

  -- of two brackets, one scores at least what the other can score
  abbrev AreApart : ℕ → ℕ → Type 0
  AreApart i j = ((of i).hi ≤ (of j).lo) ⊎ ((of j).hi ≤ (of i).lo)

  apart_rows : (j k : ℕ) → j < length answer → k < length answer → (get_or answer j 0 ≡ get_or answer k 0 → ⊥) → AreApart (get_or answer j 0) (get_or answer k 0)
  apart_rows j k first second differ = elim (cases_order j k) [
    | inl is ↦ absurd (differ (ap (λ m. get_or answer m 0) is))
    | inr other ↦ elim other [
      | inl less ↦ inr (rows_fall j k less second)
      | inr more ↦ inl (rows_fall k j more first)
    ]
  ]

  apart : (i j : ℕ) → j < n → (i ≡ j → ⊥) → 1 ≤ times i answer → AreApart i j
  apart i j low differ some = elim (cases_lt 0 (times j answer)) [
    | inr none ↦
        let here : floor ≤ (of i).lo = pick_floor i some in
        let found = position_of i answer some in
        let out : (of j).hi ≤ floor = settled.rest j (low, omega (arith, none)) (omega (arith, found.1)) in
        inr (omega (arith, here, out))
    | inl also ↦
        let first = position_of i answer some in
        let second = position_of j answer (omega (arith, also)) in
        let is : get_or answer first.0 0 ≡ i = first.2 in
        let js : get_or answer second.0 0 ≡ j = second.2 in
        rw (is, js) at (apart_rows first.0 second.0 first.1 second.1 (λ (e : get_or answer first.0 0 ≡ get_or answer second.0 0). differ (sym is ∙ e ∙ js)))
  ]

  abbrev place : ℕ → ℕ
  place p = get_or all p 0

  put_low : (p : ℕ) → p < length all → place p < n
  put_low p low = below brackets all same p 0 low

  put_apart : (p q : ℕ) → p < q → q < length all → place p ≡ place q → ⊥
  put_apart p q less low is = omega (arith, stands_twice all p q less low is, once_all brackets all same (place q))

  -- if the answer has r rows and one of the first r brackets is outside it, a later one is in it
  later_pick : (p : ℕ) → p < length all → p < r → length answer ≡ r → times (place p) answer ≡ 0
      → (q : ℕ) × (p < q) × (q < length all) × (1 ≤ times (place q) answer)
  later_pick p low few full none =
      let weight : ℕ → ℕ = λ i. times i answer in
      let total : sum_by weight all ≡ length answer = sum_by-IsPermutation weight _ _ same ∙ counted_places n answer inside in
      let parts : sum_by weight (take p all) + sum_by weight (drop p all) ≡ sum_by weight all = sum_by-take-drop weight all p in
      let next : sum_by weight (drop p all) ≡ weight (place p) + sum_by weight (drop (suc p) all) =
      ap (sum_by weight) (drop-cons all p 0 low) ∙ sum_by-cons weight (place p) (drop (suc p) all) in
      let front : sum_by weight (take p all) ≤ length (take p all) * 1 = sum_by-le weight 1 (take p all) (λ k d within. settled.once (get_or (take p all) k d)) in
      let some : 0 < sum_by weight (drop (suc p) all) = omega (arith, total, parts, next, front, length-take p all, none, full, few) in
      let found = some_place answer (drop (suc p) all) some in
      let there : get_or (drop (suc p) all) found.0 0 ≡ place (suc p + found.0) = get_or-drop (suc p) all found.0 0 in
      (suc p + found.0, omega arith, omega (arith, found.1, length-drop (suc p) all), rw there at found.2)

  put_floor : (p : ℕ) → p < length all → p < r → length answer ≡ r → floor ≤ (of (place p)).lo
  put_floor p low few full = elim (cases_lt 0 (times (place p) answer)) [
    | inl some ↦ pick_floor (place p) (omega (arith, some))
    | inr none ↦
        let later = later_pick p low few full (omega (arith, none)) in
        let order = falls brackets all ordered p later.0 later.1 later.2 in
        omega (arith, order.0, pick_floor (place later.0) later.3)
  ]

  by_apart : (a b : Bracket) → a.lo ≤ a.hi → NotBefore a b → ((a.hi ≤ b.lo) ⊎ (b.hi ≤ a.lo)) → b.hi ≤ a.lo
  by_apart a b right order (inr le) = le
  by_apart a b right order (inl le) =
      let low : b.lo ≤ a.lo = order.0 in
      let up : b.hi ≤ a.hi = order.1 (omega (arith, right, le)) in
      omega (arith, low, up, le)

  flip : (i j : ℕ) → AreApart i j → AreApart j i
  flip i j (inl le) = inr le
  flip i j (inr le) = inl le

  -- the least that one of the first r brackets scores is at least what any later one can score
  put_falls : (p q : ℕ) → p < q → q < length all → p < r → (of (place q)).hi ≤ (of (place p)).lo
  put_falls p q less low few =
      let first : p < length all = omega (arith, low) in
      let order : NotBefore (of (place p)) (of (place q)) = falls brackets all ordered p q less low in
      let right : (of (place p)).lo ≤ (of (place p)).hi = proper_at (place p) (put_low p first) in
      let differ = put_apart p q less low in
      elim (cases_lt 0 (times (place p) answer)) [
        | inl some ↦ by_apart (of (place p)) (of (place q)) right order (apart (place p) (place q) (put_low q low) differ (omega (arith, some)))
        | inr none ↦ elim (cases_lt 0 (times (place q) answer)) [
          | inl some ↦
              by_apart (of (place p)) (of (place q)) right order
              (flip (place q) (place p) (apart (place q) (place p) (put_low p first) (λ (e : place q ≡ place p). differ (sym e)) (omega (arith, some))))
          | inr neither ↦ elim settled.whole [
            | inl full ↦
                let out : (of (place q)).hi ≤ floor = settled.rest (place q) (put_low q low, omega (arith, neither)) (omega (arith, few, full)) in
                omega (arith, out, put_floor p first few full)
            | inr every ↦ absurd (omega (arith, every.0 (place p) (put_low p first), none))
          ]
        ]
      ]

  last_floor : 0 < length (take r all) → 0 < threshold → threshold ≤ (of (place (length (take r all) - 1))).lo
  last_floor some more = elim settled.whole [
    | inr every ↦ absurd (omega (arith, every.1, more))
    | inl full ↦
        let few : length (take r all) - 1 < r = omega (arith, some, length-take r all) in
        let here : threshold ≤ floor = settled.unmet (omega (arith, full, few)) more in
        omega (arith, here, put_floor (length (take r all) - 1) (omega (arith, some, length-take r all)) few full)
  ]

  none : n < r → threshold ≡ 0
  none short = elim settled.whole [
    | inl full ↦ absurd (omega (arith, short, full, few_places n answer inside settled.once))
    | inr every ↦ every.1
  ]

  chosen_settled : IsSettled brackets (take r all) threshold r
  chosen_settled = places_settled brackets all same threshold r put_falls none last_floor

-- if any answer is settled, the chosen one is
pub chosen_is_settled : (brackets : List Bracket) (threshold r : ℕ) (answer picks : List ℕ) → AreBrackets brackets → ArePicks brackets answer
    → IsSettled brackets answer threshold r → IsChosen brackets r picks → IsSettled brackets picks threshold r
chosen_is_settled brackets threshold r answer picks proper inside settled chosen =
    rw chosen.first (chosen_settled brackets threshold r answer chosen.all proper inside settled chosen.same chosen.ordered)

-- if no bracket leaves a score open, the chosen answer is settled at a threshold of 0
pub even_settled : (brackets : List Bracket) (r : ℕ) (all : List ℕ) → ((i : ℕ) → i < length brackets → (bracket_at brackets i).hi ≤ (bracket_at brackets i).lo)
    → IsPermutation (range_with_len 0 (length brackets)) all → IsSorted (place_cmp brackets) all → IsSettled brackets (take r all) 0 r
even_settled brackets r all even same ordered =
    places_settled brackets all same 0 r
    (λ p q less inside few. omega (arith, even (get_or all q 0) (below brackets all same q 0 inside), (falls brackets all ordered p q less inside).0))
    (λ short. refl) (λ some more. omega (arith, more))

-- the picks of the chosen answer are places
pub chosen_are_picks : (brackets : List Bracket) (r : ℕ) (picks : List ℕ) → IsChosen brackets r picks → ArePicks brackets picks
chosen_are_picks brackets r picks chosen =
    rw chosen.first (All-take (λ i. i < length brackets) r chosen.all (All-permutation (λ i. i < length brackets) _ _ chosen.same (range_below (length brackets))))

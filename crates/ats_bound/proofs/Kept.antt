-- The largest of a growing list are kept by count.
use Rattle.std.proofs.Common.{◌≡◌, ◌≢◌, ◌<◌, ◌≤◌, ◌↔◌, ◌+◌, ◌-◌, ◌*◌, ℕ, suc, cond, leb, List, [], ◌∷◌, length, take, drop, set, get_or, replicate, refl, sym, ap, ◌∙◌, subst, inl, inr, arith, length-set, length-take, length-drop}
use Rattle.std.specs.List.Sorted.{IsPermutation}
use Rattle.std.specs.List.{SwappedAt}
use Rattle.std.proofs.lemmas.Bool.{cases_order, cases_lt, le-leb, lt-leb}
use Rattle.std.proofs.lemmas.List.{get_or_default, get_or_past, get_or-take, get_or-set_same, get_or-set_other}
use Rattle.std.proofs.lemmas.List.Sums.{count_by-le-length, sum_by-cons, sum_by-le-sum_by, sum_by-set, sum_by-take-drop}
use Rattle.std.proofs.lemmas.List.Folds.{sum_by-replicate}
use Rattle.std.proofs.lemmas.List.Sorted.{length_permutation, sum_by-IsPermutation}
use Rattle.ats_bound.specs.Inner.Best.{AreBest, Ascends, AscendsBut, count_at_least}

-- ---- one value moves to its place

pub sifted : (xs ys : List ℕ) (k next : ℕ) → next ≡ k + 1 → next < length xs → length ys ≡ length xs → get_or xs next 0 < get_or xs k 0
    → SwappedAt xs ys k next → AscendsBut k xs → AscendsBut next ys
sifted xs ys k next is inside size less swapped but =
    let later : next ≢ k = λ e. omega (arith, e, is) in
    let first : get_or ys k 0 ≡ get_or xs next 0 = swapped.0 0 in
    let second : get_or ys next 0 ≡ get_or xs k 0 = swapped.1 0 in
    let kept : (m : ℕ) → m ≢ k → m ≢ next → get_or ys m 0 ≡ get_or xs m 0 = λ m. swapped.2 m 0 in
    record {
      before = λ i low. elim (cases_order i k) [
        | inl here ↦ rw here (omega (arith, first, second, less))
        | inr other ↦
            let below : i < k = elim other [ inl lt ↦ lt | inr gt ↦ absurd (omega (arith, gt, low, is)) ] in
            omega (arith, kept i (λ e. omega (arith, e, below)) (λ e. omega (arith, e, low)), second, but.before i below)
      ];
      others = λ i j le low not_i not_j. elim (cases_order i k) [
        | inl here ↦ elim (cases_order j k) [
          | inl there ↦ rw (here, there) (omega arith)
          | inr away ↦
              let above : next < j = elim away [
                | inl lt ↦ absurd (omega (arith, lt, le, here))
                | inr gt ↦ elim (cases_order next j) [
                  | inl same ↦ absurd (not_j (sym same))
                  | inr apart ↦ elim apart [ inl lt ↦ lt | inr more ↦ absurd (omega (arith, more, gt, is)) ]
                ]
              ] in
              let differ : j ≢ k = λ e. omega (arith, e, above, is) in
              let step = but.others next j (omega (arith, above)) (omega (arith, low, size)) later differ in
              rw here (omega (arith, first, kept j differ not_j, step))
        ]
        | inr other ↦
            let differ : i ≢ k = λ e. elim other [ inl lt ↦ omega (arith, e, lt) | inr gt ↦ omega (arith, e, gt) ] in
            elim (cases_order j k) [
              | inl there ↦
                  let step = but.others i next (omega (arith, le, there, is)) inside differ later in
                  rw there (omega (arith, first, kept i differ not_i, step))
              | inr away ↦
                  let apart : j ≢ k = λ e. elim away [ inl lt ↦ omega (arith, e, lt) | inr gt ↦ omega (arith, e, gt) ] in
                  omega (arith, kept i differ not_i, kept j apart not_j, but.others i j le (omega (arith, low, size)) differ apart)
            ]
      ];
    }

-- if the next is no lower, all ascend
pub sifted_end : (xs : List ℕ) (k : ℕ) → AscendsBut k xs → (k + 1 < length xs → get_or xs k 0 ≤ get_or xs (k + 1) 0) → Ascends xs
sifted_end xs k but next i j le inside = elim (cases_order i k) [
  | inl here ↦ elim (cases_order j k) [
    | inl there ↦ rw (here, there) (omega arith)
    | inr away ↦
        let above : k < j = elim away [ inl lt ↦ absurd (omega (arith, lt, le, here)) | inr gt ↦ gt ] in
        let step = next (omega (arith, above, inside)) in
        let rest = but.others (k + 1) j (omega (arith, above)) inside (λ e. omega (arith, e)) (λ e. omega (arith, e, above)) in
        rw here (omega (arith, step, rest))
  ]
  | inr other ↦
      let differ : i ≢ k = λ e. elim other [ inl lt ↦ omega (arith, e, lt) | inr gt ↦ omega (arith, e, gt) ] in
      elim (cases_order j k) [
        | inl there ↦
            let low : i < k = elim other [ inl lt ↦ lt | inr gt ↦ absurd (omega (arith, gt, le, there)) ] in
            rw there (but.before i low)
        | inr away ↦
            let apart : j ≢ k = λ e. elim away [ inl lt ↦ omega (arith, e, lt) | inr gt ↦ omega (arith, e, gt) ] in
            but.others i j le inside differ apart
      ]
]

-- ---- counts

-- 1 if the value is at least `least`, else 0
abbrev pub reached : ℕ → ℕ → ℕ
reached least x = cond (leb least x) 1 0

pub reached_yes : (least x : ℕ) → least ≤ x → reached least x ≡ 1
reached_yes least x le = ap (λ b. cond b 1 0) (le-leb least x le)

pub reached_no : (least x : ℕ) → x < least → reached least x ≡ 0
reached_no least x less = ap (λ b. cond b 1 0) (lt-leb least x less)

pub count_cons : (least x : ℕ) (xs : List ℕ) → count_at_least least (x ∷ xs) ≡ reached least x + count_at_least least xs
count_cons least x xs = sum_by-cons (reached least) x xs

pub count_set : (least : ℕ) (xs : List ℕ) (i v : ℕ) → i < length xs
    → count_at_least least (set xs i v) + reached least (get_or xs i 0) ≡ count_at_least least xs + reached least v
count_set least xs i v inside = sum_by-set (reached least) xs i v 0 inside

pub count_permuted : (least : ℕ) (xs ys : List ℕ) → IsPermutation xs ys → count_at_least least ys ≡ count_at_least least xs
count_permuted least xs ys same = sum_by-IsPermutation (reached least) xs ys same

-- if each is at least `least`, all are counted
pub count_all : (least : ℕ) (xs : List ℕ) → ((i : ℕ) → i < length xs → least ≤ get_or xs i 0) → count_at_least least xs ≡ length xs
count_all least [] each = refl
count_all least (x ∷ xs) each =
    omega (
      arith,
      count_cons least x xs,
      reached_yes least x (each 0 (omega arith)),
      count_all least xs (λ i inside. each (suc i) (omega (arith, inside))),
    )

-- if each is lower, none is
pub count_none : (least : ℕ) (xs : List ℕ) → ((i : ℕ) → i < length xs → get_or xs i 0 < least) → count_at_least least xs ≡ 0
count_none least [] low = refl
count_none least (x ∷ xs) low =
    omega (arith, count_cons least x xs, reached_no least x (low 0 (omega arith)), count_none least xs (λ i inside. low (suc i) (omega (arith, inside))))

-- if one is lower, fewer are
pub count_short : (least : ℕ) (xs : List ℕ) (i : ℕ) → i < length xs → get_or xs i 0 < least → count_at_least least xs < length xs
count_short least xs i inside low =
    omega (
      arith,
      count_set least xs i least inside,
      reached_no least (get_or xs i 0) low,
      reached_yes least least (omega arith),
      count_by-le-length (λ x. leb least x) (set xs i least),
      length-set xs i least,
    )

reached_less : (least x : ℕ) → reached (least + 1) x ≤ reached least x
reached_less least x = elim (cases_lt x (least + 1)) [
  | inl low ↦ omega (arith, reached_no (least + 1) x low)
  | inr high ↦ omega (arith, reached_yes (least + 1) x high, reached_yes least x (omega (arith, high)))
]

-- a value is among those that are at least it, and not among those above it
pub count_of_one : (xs : List ℕ) (i x : ℕ) → i < length xs → get_or xs i 0 ≡ x → 1 ≤ x → count_at_least (x + 1) xs < count_at_least x xs
count_of_one xs i x inside is some =
    let out : List ℕ = set xs i 0 in
    let here : reached x (get_or xs i 0) ≡ 1 = rw is (reached_yes x x (omega arith)) in
    let there : reached (x + 1) (get_or xs i 0) ≡ 0 = rw is (reached_no (x + 1) x (omega arith)) in
    omega (
      arith,
      count_set x xs i 0 inside,
      count_set (x + 1) xs i 0 inside,
      here,
      there,
      reached_no x 0 some,
      reached_no (x + 1) 0 (omega arith),
      sum_by-le-sum_by (reached (x + 1)) (reached x) out (reached_less x),
    )

-- if no value is x, as many are above x as are at least x
pub count_of_none : (x : ℕ) (xs : List ℕ) → ((i : ℕ) → i < length xs → get_or xs i 0 ≢ x) → count_at_least x xs ≡ count_at_least (x + 1) xs
count_of_none x [] none = refl
count_of_none x (y ∷ xs) none =
    let later = count_of_none x xs (λ i inside. none (suc i) (omega (arith, inside))) in
    let differ : y ≢ x = none 0 (omega arith) in
    elim (cases_lt x y) [
      | inl above ↦ omega (arith, count_cons x y xs, count_cons (x + 1) y xs, reached_yes x y (omega (arith, above)), reached_yes (x + 1) y (omega (arith, above)), later)
      | inr within ↦
          let below : y < x = omega (arith, within, differ) in
          omega (arith, count_cons x y xs, count_cons (x + 1) y xs, reached_no x y below, reached_no (x + 1) y (omega (arith, below)), later)
    ]

-- ---- the largest, as more are added

pub none_kept : (n : ℕ) → AreBest (replicate n 0) []
none_kept n = record {
  each = λ least some.
      let nothing : n * reached least 0 ≡ n * 0 = ap (λ x. n * x) (reached_no least 0 some) in
      omega (arith, sum_by-replicate (reached least) n 0, nothing);
}

-- the first of what is kept, as an index gives it
pub first_is : (inside kept : List ℕ) (x : ℕ) → inside ≡ kept → 1 ≤ length inside → x ≡ get_or inside 0 x → x ≡ get_or kept 0 0
first_is inside kept x is some here = here ∙ get_or_default inside 0 x 0 some ∙ ap (λ xs. get_or xs 0 0) is

module _ (kept : List ℕ) (ascends : Ascends kept) where
  -- a value of at most the first is reached by all that are kept
  all_reached : (least : ℕ) → least ≤ get_or kept 0 0 → count_at_least least kept ≡ length kept
  all_reached least low = count_all least kept (λ i inside. omega (arith, ascends 0 i (omega arith) inside, low))

  pub least_reaches : (all : List ℕ) (threshold : ℕ) → 1 ≤ length kept → AreBest kept all → 1 ≤ threshold
      → (threshold ≤ get_or kept 0 0) ↔ (length kept ≤ count_at_least threshold all)
  least_reaches all threshold some best more =
      let is = best.each threshold more in (
        λ le. omega (arith, is, all_reached threshold le),
        λ many. elim (cases_lt (get_or kept 0 0) threshold) [
          | inl less ↦ absurd (omega (arith, is, many, count_short threshold kept 0 some less))
          | inr le ↦ le
        ],
      )

  -- if the value that so many follow is low, no more reach the number
  pub few_reached : (all : List ℕ) (least many : ℕ) → many < length kept → get_or kept (length kept - 1 - many) 0 < least → AreBest kept all → count_at_least least all ≤ many
  few_reached all least many inside low best =
      let before : ℕ = length kept - many in
      let none : count_at_least least (take before kept) ≡ 0 = count_none least (take before kept) (λ i within.
      let early : i < before = omega (arith, within, length-take before kept) in
      omega (arith, get_or-take before kept i 0 early, ascends i (length kept - 1 - many) (omega (arith, early, inside)) (omega (arith, inside)), low)) in
      omega (
        arith,
        none,
        sum_by-take-drop (reached least) kept before,
        count_by-le-length (λ x. leb least x) (drop before kept),
        length-drop before kept,
        best.each least (omega (arith, low)),
        inside,
      )

  -- the value after the first is reached by all that are kept but one; past the end of one value stands the most that
  -- a value can be
  pub next_reaches : (all : List ℕ) (threshold most : ℕ) → 1 ≤ length kept → AreBest kept all → 1 ≤ threshold → threshold ≤ most
      → (threshold ≤ get_or kept 1 most) ↔ (length kept ≤ count_at_least threshold all + 1)
  next_reaches all threshold most some best more high =
      let is = best.each threshold more in
      let one : count_at_least threshold (set kept 0 threshold) + reached threshold (get_or kept 0 0) ≡ count_at_least threshold kept + 1 =
      rw (reached_yes threshold threshold (omega arith)) at (count_set threshold kept 0 threshold some) in
      let size : length (set kept 0 threshold) ≡ length kept = length-set kept 0 threshold in
      elim (cases_lt 1 (length kept)) [
        | inr alone ↦ (λ _. omega (arith, some, alone), λ _. rw (get_or_past kept 1 most alone) high)
        | inl two ↦
            let same : get_or kept 1 most ≡ get_or kept 1 0 = get_or_default kept 1 most 0 two in
            let there : get_or (set kept 0 threshold) 1 0 ≡ get_or kept 1 0 = get_or-set_other kept 0 1 threshold 0 (λ e. omega (arith, e)) in (
              λ le.
                  let every : count_at_least threshold (set kept 0 threshold) ≡ length (set kept 0 threshold) = count_all threshold (set kept 0 threshold) (λ i inside. elim (cases_lt 0 i) [
                    | inl after ↦
                        let other : get_or (set kept 0 threshold) i 0 ≡ get_or kept i 0 = get_or-set_other kept 0 i threshold 0 (λ e. omega (arith, e, after)) in
                        omega (arith, other, ascends 1 i (omega (arith, after)) (omega (arith, inside, size)), same, le)
                    | inr first ↦
                        let zero_is : i ≡ 0 = omega (arith, first) in
                        rw (zero_is, get_or-set_same kept 0 threshold 0 some) (omega arith)
                  ]) in
                  omega (arith, is, one, every, size),
              λ many. elim (cases_lt (get_or kept 1 most) threshold) [
                | inr le ↦ le
                | inl less ↦
                    absurd (omega (
                      arith,
                      is,
                      many,
                      one,
                      size,
                      two,
                      reached_no threshold (get_or kept 0 0) (omega (arith, ascends 0 1 (omega arith) two, same, less)),
                      count_short threshold (set kept 0 threshold) 1 (omega (arith, two, size)) (omega (arith, there, same, less)),
                    ))
              ],
            )
      ]

  -- one value more, which is not kept
  pub added_low : (all after : List ℕ) (value : ℕ) → AreBest kept all → IsPermutation (value ∷ all) after → value ≤ get_or kept 0 0 → AreBest kept after
  added_low all after value best same low = record {
    each = λ least some.
        let is = best.each least some in
        let counts = count_permuted least (value ∷ all) after same in
        let more = count_cons least value all in
        elim (cases_lt value least) [
          | inl above ↦ omega (arith, is, counts, more, reached_no least value above)
          | inr within ↦ omega (arith, is, counts, more, reached_yes least value within, all_reached least (omega (arith, within, low)))
        ];
  }

  module _ (new : List ℕ) (place value : ℕ) (inside : place < length kept) (more : get_or kept place 0 ≤ value) (is : IsPermutation (set kept place value) new) where
    new_size : length new ≡ length kept
    new_size = length_permutation (set kept place value) new is ∙ length-set kept place value

    new_count : (least : ℕ) → count_at_least least new + reached least (get_or kept place 0) ≡ count_at_least least kept + reached least value
    new_count least = rw (count_permuted least (set kept place value) new is) (count_set least kept place value inside)

    most : (least : ℕ) → count_at_least least new ≤ length new
    most least = count_by-le-length (λ x. leb least x) new

    -- one value more, which takes the first's place
    pub added_high : (all after : List ℕ) → place ≡ 0 → AreBest kept all → IsPermutation (value ∷ all) after → AreBest new after
    added_high all after first best same = record {
      each = λ least some.
          let old = best.each least some in
          let counts = count_permuted least (value ∷ all) after same in
          let step = count_cons least value all in
          elim (cases_lt (get_or kept place 0) least) [
            | inl out ↦ omega (arith, old, counts, step, new_size, new_count least, most least, reached_no least (get_or kept place 0) out, count_short least kept place inside out)
            | inr in_all ↦
                let low : least ≤ get_or kept 0 0 = subst (λ (i : ℕ). least ≤ get_or kept i 0) first in_all in
                omega (
                  arith,
                  old,
                  counts,
                  step,
                  new_size,
                  new_count least,
                  reached_yes least (get_or kept place 0) in_all,
                  reached_yes least value (omega (arith, in_all, more)),
                  all_reached least low,
                )
          ];
    }

    -- a value that is kept is now a greater one
    pub raised : (all : List ℕ) (i : ℕ) → AreBest kept all → i < length all → get_or all i 0 ≡ get_or kept place 0 → AreBest new (set all i value)
    raised all i best low same = record {
      each = λ least some.
          let old = best.each least some in
          let change : count_at_least least (set all i value) + reached least (get_or kept place 0) ≡ count_at_least least all + reached least value = rw same at (count_set least all i value low) in
          elim (cases_lt (get_or kept place 0) least) [
            | inl out ↦ omega (arith, old, change, new_size, new_count least, most least, reached_no least (get_or kept place 0) out, count_short least kept place inside out)
            | inr in_all ↦
                omega (
                  arith,
                  old,
                  change,
                  new_size,
                  new_count least,
                  reached_yes least (get_or kept place 0) in_all,
                  reached_yes least value (omega (arith, in_all, more)),
                )
          ];
    }

  -- a value that is not kept is below all that are
  pub absent_is_low : (all : List ℕ) (i value : ℕ) → 1 ≤ length kept → AreBest kept all → i < length all → get_or all i 0 ≡ value
      → ((k : ℕ) → k < length kept → get_or kept k 0 ≢ value) → value < get_or kept 0 0
  absent_is_low all i value some best low is absent = elim (cases_lt value (get_or kept 0 0)) [
    | inl less ↦ less
    | inr within ↦
        let first : get_or kept 0 0 < value = omega (arith, within, absent 0 some) in
        absurd (
        omega (
          arith,
          best.each value (omega (arith, first)),
          best.each (value + 1) (omega arith),
          count_of_none value kept absent,
          count_of_one all i value low is (omega (arith, first)),
          count_short value kept 0 some first,
        )
        )
  ]

  -- raising a value that is not kept is like adding the larger one
  pub raised_absent : (new all : List ℕ) (i from to : ℕ) → length new ≡ length kept → from ≤ to → AreBest kept all → i < length all → get_or all i 0 ≡ from → from < get_or kept 0 0
      → AreBest new (to ∷ all) → AreBest new (set all i to)
  raised_absent new all i from to size le best low is below after = record {
    each = λ least some.
        let new_is = after.each least some in
        let step = count_cons least to all in
        let change : count_at_least least (set all i to) + reached least from ≡ count_at_least least all + reached least to = rw is at (count_set least all i to low) in
        elim (cases_lt from least) [
          | inl out ↦ omega (arith, new_is, step, change, reached_no least from out)
          | inr within ↦
              omega (
                arith,
                new_is,
                step,
                change,
                size,
                best.each least some,
                reached_yes least from within,
                reached_yes least to (omega (arith, within, le)),
                all_reached least (omega (arith, within, below)),
              )
        ];
  }

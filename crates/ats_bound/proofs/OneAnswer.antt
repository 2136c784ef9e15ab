-- Brackets of distinct documents have one chosen answer.
use Rattle.std.proofs.Common.{◌≡◌, ◌<◌, ◌+◌, ℕ, true, List, length, map, take, get_or, refl, sym, ap, ◌∙◌, arith, inl, inr}
use Rattle.std.specs.List.{All, IsDistinct, range_with_len}
use Rattle.std.specs.List.Sorted.{IsPermutation, IsSorted}
use Rattle.std.specs.Cmp.{IsTotalOrder}
use Rattle.std.specs.Ordering.{nat_cmp, eq_by_cmp, is_eq, ordering_then}
use Rattle.std.specs.declared.cmp.Ordering.{Ordering}
use Rattle.std.specs.declared.cmp.Ordering.TheVariants.{Less, Equal, Greater}
use Rattle.std.proofs.lemmas.Bool.{cases_order, cases_Bool}
use Rattle.std.proofs.lemmas.Cmp.{nat_cmp_total, on_total, then_total, back_total}
use Rattle.std.proofs.lemmas.List.{ext_get_or, get_or-map, length-map}
use Rattle.std.proofs.lemmas.List.FromFn.{get_or-range_with_len, length-range_with_len}
use Rattle.std.proofs.lemmas.List.Sorted.{All-permutation, IsPermutation-map, length_permutation}
use Rattle.std.proofs.lemmas.Map.Keys.{IsDistinct-from_apart}
use Rattle.std.proofs.lemmas.Map.Lookups.{CmpEqualImpliesEq, exact_unsigned}
use Rattle.ats_postings.proofs.Public.{sorted_permutation_is_one}
use Rattle.ats_bound.specs.declared.bracket.Bracket.{Bracket}
use Rattle.ats_bound.specs.Settled.{HaveDistinctDocs, bracket_at}
use Rattle.ats_bound.specs.Chosen.{IsChosen, bracket_cmp, place_cmp}
use Rattle.ats_bound.proofs.Places.{range_below, stands_twice}

pub bracket_cmp_total : IsTotalOrder bracket_cmp
bracket_cmp_total =
    then_total (then_total (on_total (λ (b : Bracket). b.lo) (back_total nat_cmp_total)) (on_total (λ (b : Bracket). b.hi) (back_total nat_cmp_total)))
    (on_total (λ (b : Bracket). b.doc) nat_cmp_total)

both_equal : (p q : Ordering) → ordering_then p q ≡ Equal → (p ≡ Equal) × (q ≡ Equal)
both_equal Less q is = absurd (cc)
both_equal Equal q is = (refl, is)
both_equal Greater q is = absurd (cc)

bracket_cmp_exact : CmpEqualImpliesEq bracket_cmp
bracket_cmp_exact a b is =
    let all = both_equal (ordering_then (nat_cmp b.lo a.lo) (nat_cmp b.hi a.hi)) (nat_cmp a.doc b.doc) is in
    let both = both_equal (nat_cmp b.lo a.lo) (nat_cmp b.hi a.hi) all.0 in
    let lower : b.lo ≡ a.lo = exact_unsigned b.lo a.lo both.0 in
    let upper : b.hi ≡ a.hi = exact_unsigned b.hi a.hi both.1 in
    let docs : a.doc ≡ b.doc = exact_unsigned a.doc b.doc all.1 in
    let made : ℕ → ℕ → ℕ → Bracket = λ doc lo hi. record { doc = doc; lo = lo; hi = hi } in
    ap (λ doc. made doc a.lo a.hi) docs ∙ ap (λ lo. made b.doc lo a.hi) (sym lower) ∙ ap (λ hi. made b.doc b.lo hi) (sym upper)

equal_from : (p : Ordering) → is_eq p ≡ true → p ≡ Equal
equal_from Less is = absurd (cc)
equal_from Equal is = refl
equal_from Greater is = absurd (cc)

module _ (brackets : List Bracket) (distinct : HaveDistinctDocs brackets) where
  abbrev at : ℕ → Bracket
  at i = bracket_at brackets i

  abbrev n : ℕ
  n = length brackets

  apart : (i j : ℕ) → i < j → j < n → (at i).doc ≡ (at j).doc → ⊥
  apart i j less inside same =
      let doc : Bracket → ℕ = λ b. b.doc in
      let none : Bracket = record { doc = 0; lo = 0; hi = 0 } in
      let docs : List ℕ = map doc brackets in
      let size : length docs ≡ n = length-map brackets doc in
      let here : get_or docs i 0 ≡ (at i).doc = get_or-map doc brackets i none 0 (omega (arith, less, inside)) in
      let there : get_or docs j 0 ≡ (at j).doc = get_or-map doc brackets j none 0 inside in
      omega (arith, stands_twice docs i j less (omega (arith, size, inside)) (here ∙ same ∙ sym there), distinct (get_or docs j 0))

  -- a document is at one place
  same_place : (i j : ℕ) → i < n → j < n → at i ≡ at j → i ≡ j
  same_place i j first second same = elim (cases_order i j) [
    | inl is ↦ is
    | inr other ↦ elim other [
      | inl less ↦ absurd (apart i j less second (ap (λ (b : Bracket). b.doc) same))
      | inr greater ↦ absurd (apart j i greater first (ap (λ (b : Bracket). b.doc) (sym same)))
    ]
  ]

  element : (i : ℕ) (d : Bracket) → i < n → get_or (map at (range_with_len 0 n)) i d ≡ at i
  element i d inside =
      let is : get_or (range_with_len 0 n) i 0 ≡ i = omega (arith, get_or-range_with_len 0 n i 0 inside) in
      get_or-map at (range_with_len 0 n) i 0 d (omega (arith, length-range_with_len 0 n, inside)) ∙ ap at is

  all_apart : IsDistinct (eq_by_cmp bracket_cmp) (map at (range_with_len 0 n))
  all_apart = IsDistinct-from_apart (eq_by_cmp bracket_cmp) (map at (range_with_len 0 n)) (λ i j d less inside.
      let size : length (map at (range_with_len 0 n)) ≡ n = length-map (range_with_len 0 n) at ∙ length-range_with_len 0 n in
      let later : j < n = omega (arith, size, inside) in
      rw (element i d (omega (arith, less, later)), element j d later) (elim (cases_Bool (eq_by_cmp bracket_cmp (at i) (at j))) [
        | inl tied ↦ absurd (apart i j less later (ap (λ (b : Bracket). b.doc) (bracket_cmp_exact (at i) (at j) (equal_from (bracket_cmp (at i) (at j)) tied))))
        | inr not ↦ not
      ]))

  brackets_sorted : (places : List ℕ) → IsSorted (place_cmp brackets) places → IsSorted bracket_cmp (map at places)
  brackets_sorted places ordered k d low inside =
      let size : length (map at places) ≡ length places = length-map places at in
      let next : k + 1 < length places = omega (arith, size, inside) in
      rw (get_or-map at places (k + 1) 0 d next, get_or-map at places k 0 d (omega (arith, next))) (ordered k 0 low next)

  -- places in the order of their brackets have one order
  one_order : (a b : List ℕ) → IsPermutation (range_with_len 0 n) a → IsSorted (place_cmp brackets) a
      → IsPermutation (range_with_len 0 n) b → IsSorted (place_cmp brackets) b → a ≡ b
  one_order a b first first_sorted second second_sorted =
      let same : map at a ≡ map at b =
      sorted_permutation_is_one bracket_cmp_total bracket_cmp_exact (map at (range_with_len 0 n)) (map at a) (map at b) all_apart
      (IsPermutation-map at (range_with_len 0 n) a first) (brackets_sorted a first_sorted)
      (IsPermutation-map at (range_with_len 0 n) b second) (brackets_sorted b second_sorted) in
      let size : length a ≡ length b = length_permutation (range_with_len 0 n) a first ∙ sym (length_permutation (range_with_len 0 n) b second) in
      let low : All (λ i. i < n) a = All-permutation (λ i. i < n) (range_with_len 0 n) a first (range_below n) in
      let below : All (λ i. i < n) b = All-permutation (λ i. i < n) (range_with_len 0 n) b second (range_below n) in
      ext_get_or 0 a b size (λ k inside.
      let within : k < length b = omega (arith, size, inside) in
      let here : get_or (map at a) k (at 0) ≡ at (get_or a k 0) = get_or-map at a k 0 (at 0) inside in
      let there : get_or (map at b) k (at 0) ≡ at (get_or b k 0) = get_or-map at b k 0 (at 0) within in
      same_place (get_or a k 0) (get_or b k 0) (low k 0 inside) (below k 0 within)
      (sym here ∙ ap (λ (bs : List Bracket). get_or bs k (at 0)) same ∙ there))

-- two chosen answers are one
pub one_chosen : (brackets : List Bracket) (r : ℕ) (p q : List ℕ) → HaveDistinctDocs brackets → IsChosen brackets r p → IsChosen brackets r q → p ≡ q
one_chosen brackets r p q distinct first second =
    first.first ∙ ap (take r) (one_order brackets distinct first.all second.all first.same first.ordered second.same second.ordered) ∙ sym second.first

-- Brackets with their places, put in order.
use Rattle.std.proofs.Common.{◌≡◌, ◌<◌, ◌≤◌, ◌+◌, ◌++◌, ℕ, zero, suc, false, nat_eq, cond, List, [], ◌∷◌, length, map, take, get_or, refl, sym, ap, ap₂, ◌∙◌, add-one, add-zero, zero-add, arith, length-take}
use Rattle.std.specs.List.{All, range_with_len}
use Rattle.std.specs.Ordering.{is_lt}
use Rattle.std.specs.List.Sorted.{IsPermutation, IsSorted}
use Rattle.std.proofs.lemmas.List.{get_or-map, length-map, map_push, take-map}
use Rattle.std.proofs.lemmas.List.Sums.{sum_by-take-le}
use Rattle.std.proofs.lemmas.List.Sorted.{All-permutation, IsPermutation-map}
use Rattle.ats_impact.specs.Rank.{times}
use Rattle.ats_bound.specs.declared.bracket.Bracket.{Bracket}
use Rattle.ats_bound.specs.declared.choosing.Placed.{Placed}
use Rattle.ats_bound.specs.Settled.{HaveDistinctDocs}
use Rattle.ats_bound.specs.Chosen.{IsChosen, bracket_cmp, place_cmp}
use Rattle.ats_bound.specs.Inner.Placed.{IsPlaced, placed_cmp}
use Rattle.ats_bound.proofs.Places.{few_places}

-- there are no more brackets than documents
pub few_documents : (documents : ℕ) (brackets : List Bracket) (k : ℕ) → k ≤ length brackets → HaveDistinctDocs brackets
    → All (λ b. b.doc < documents) (take k brackets) → k ≤ documents
few_documents documents brackets k inside distinct low =
    let doc : Bracket → ℕ = λ b. b.doc in
    let none : Bracket = record { doc = 0; lo = 0; hi = 0 } in
    let size : length (map doc (take k brackets)) ≡ length (take k brackets) = length-map (take k brackets) doc in
    let once : (i : ℕ) → times i (map doc (take k brackets)) ≤ 1 = λ i.
    rw (take-map doc k brackets) at (few_of (map doc brackets) k i (distinct i)) in
    omega (
      arith,
      size,
      length-take k brackets,
      few_places documents (map doc (take k brackets))
          (λ j d within. let there : j < length (take k brackets) = omega (arith, size, within) in rw (get_or-map doc (take k brackets) j none d there) (low j none there)) once,
    )
  where
    few_of : (docs : List ℕ) (k i : ℕ) → times i docs ≤ 1 → times i (take k docs) ≤ 1
    few_of docs k i few = omega (arith, few, sum_by-take-le (λ x. cond (nat_eq x i) 1 0) docs k)

places_sorted : (brackets : List Bracket) (sorted : List Placed) → All (IsPlaced brackets) sorted
    → IsSorted placed_cmp sorted → IsSorted (place_cmp brackets) (map (λ p. p.place) sorted)
places_sorted brackets sorted every ordered k d low inside =
    let place : Placed → ℕ = λ p. p.place in
    let e : Placed = record { doc = 0; lo = 0; hi = 0; place = 0 } in
    let size : length (map place sorted) ≡ length sorted = length-map sorted place in
    let next : k + 1 < length sorted = omega (arith, size, inside) in
    let here : k < length sorted = omega (arith, next) in
    let order : is_lt (placed_cmp (get_or sorted (k + 1) e) (get_or sorted k e)) ≡ false = ordered k e low next in
    rw (get_or-map place sorted (k + 1) e d next, get_or-map place sorted k e d here)
    (sym (ap₂ (λ x y. is_lt (bracket_cmp x y)) (every (k + 1) e next) (every k e here)) ∙ order)

-- the places of sorted brackets, up to r, are the chosen answer
pub chosen_of : (brackets : List Bracket) (made sorted : List Placed) (r : ℕ) → map (λ p. p.place) made ≡ range_with_len 0 (length brackets)
    → All (IsPlaced brackets) made → IsPermutation made sorted → IsSorted placed_cmp sorted
    → IsChosen brackets r (map (λ p. p.place) (take r sorted))
chosen_of brackets made sorted r places every same ordered = record {
  all = map (λ p. p.place) sorted;
  same = rw places at (IsPermutation-map (λ (p : Placed). p.place) made sorted same);
  ordered = places_sorted brackets sorted (All-permutation (IsPlaced brackets) made sorted same every) ordered;
  first = sym (take-map (λ (p : Placed). p.place) r sorted);
}

range_more : (a n : ℕ) → range_with_len a (suc n) ≡ range_with_len a n ++ (a + n) ∷ []
range_more a zero = rw (add-zero a) refl
range_more a (suc n) =
    let same : (a + 1) + n ≡ a + suc n = omega arith in
    ap (λ t. a ∷ t) (rw same at (range_more (a + 1) n))

-- one more bracket, with the next place
pub places_more : (made : List Placed) (p : Placed) (n : ℕ) → map (λ p. p.place) made ≡ range_with_len 0 n → p.place ≡ n
    → map (λ p. p.place) (made ++ p ∷ []) ≡ range_with_len 0 (n + 1)
places_more made p n places is =
    let next : range_with_len 0 (n + 1) ≡ range_with_len 0 n ++ n ∷ [] =
    ap (range_with_len 0) (add-one n) ∙ range_more 0 n ∙ ap (λ m. range_with_len 0 n ++ m ∷ []) (zero-add n) in
    map_push (λ (p : Placed). p.place) made p ∙ ap₂ (λ front last. front ++ last ∷ []) places is ∙ sym next

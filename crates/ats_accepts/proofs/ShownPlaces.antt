-- Each number of a list that rises is at its place.
use Rattle.std.proofs.Common.{◌≡◌, ◌+◌, ◌<◌, ℕ, true, List, length, map, get_or, Some, slice_get, sym, ap, ◌∙◌, arith, inl, inr}
use Rattle.std.specs.List.Sorted.{IsStrictlyIncreasing}
use Rattle.std.proofs.lemmas.Bool.{cases_lt}
use Rattle.std.proofs.lemmas.List.{length-map, get_or-map, get_or_default}
use Rattle.std.proofs.lemmas.List.Kept.{AllPairs-from_increasing}
use Rattle.std.proofs.lemmas.Option.{slice_get-get_or}
use Rattle.ats_honest.specs.Terms.{has, place}
use Rattle.ats_bound.proofs.Public.{contained_has}
use Rattle.ats_honest.proofs.Public.{place_at, never_falls}

-- the place of a number is inside the list, and the number is there
pub record IsAtPlace (positions : List ℕ) (p : ℕ) : Type 0 where
  pub within : place positions p < length positions
  pub there : get_or positions (place positions p) 0 ≡ p

pub at_place : (positions : List ℕ) (p : ℕ) → IsStrictlyIncreasing positions → has p positions ≡ true → IsAtPlace positions p
at_place positions p rise stands =
    let found = contained_has p positions stands in
    let here : get_or positions found.0 0 ≡ p = get_or_default positions found.0 0 p found.1 ∙ found.2 in
    let own : place positions p ≡ found.0 = ap (place positions) (sym here) ∙ place_at positions found.0 rise found.1 in
    record {
      within = omega (arith, own, found.1);
      there = ap (λ k. get_or positions k 0) own ∙ here;
    }

-- the value of f at the number is there too
pub shown_at_place : {X : Type 0} (f : ℕ → X) (positions : List ℕ) (p : ℕ) → IsStrictlyIncreasing positions → has p positions ≡ true
    → slice_get (map f positions) (place positions p) ≡ Some (f p)
shown_at_place f positions p rise stands =
    let is = at_place positions p rise stands in
    slice_get-get_or (map f positions) (place positions p) (f p) (omega (arith, is.within, length-map positions f))
    ∙ ap Some (get_or-map f positions (place positions p) 0 (f p) is.within ∙ ap f is.there)

-- neighbours are at consecutive places
pub next_place : (positions : List ℕ) (p : ℕ) → IsStrictlyIncreasing positions → has p positions ≡ true → has (p + 1) positions ≡ true
    → place positions (p + 1) ≡ place positions p + 1
next_place positions p rise stands next =
    let here = at_place positions p rise stands in
    let there = at_place positions (p + 1) rise next in
    let i = place positions p in
    let j = place positions (p + 1) in
    let pairs = AllPairs-from_increasing positions rise in
    elim (cases_lt i j) [
      | inl less ↦ elim (cases_lt (i + 1) j) [
        | inl more ↦ absurd (omega (arith, here.there, there.there, pairs i (i + 1) 0 (omega arith) (omega (arith, more, there.within)), pairs (i + 1) j 0 more there.within))
        | inr most ↦ omega (arith, less, most)
      ]
      | inr past ↦ absurd (omega (arith, here.there, there.there, never_falls positions rise j i 0 past here.within))
    ]

pub made_at_place : {X : Type 0} (f : ℕ → X) (positions : List ℕ) (p : ℕ) (d : X) → IsStrictlyIncreasing positions → has p positions ≡ true
    → get_or (map f positions) (place positions p) d ≡ f p
made_at_place f positions p d rise stands =
    let is = at_place positions p rise stands in
    get_or-map f positions (place positions p) 0 d is.within ∙ ap f is.there

-- The largest rest of the first lanes, at the first place that has it.
use Rattle.std.proofs.Common.{◌≡◌, ◌<◌, ◌≤◌, ◌+◌, ◌*◌, ℕ, true, nat_eq, cond, ◌-◌, mul-zero, length-take, List, [], length, map, get_or, sym, ap, ◌∙◌, arith, inl, inr}
use Rattle.std.proofs.lemmas.Bool.{cases_order, cases_lt}
use Rattle.std.proofs.lemmas.Bool.Decides.{nat_tests}
use Rattle.std.proofs.lemmas.List.Sums.{sum_by-le}
use Rattle.ats_postings.specs.declared.entry.Entry.{Entry}
use Rattle.ats_bound.specs.Cut.{ShownLane, lane_of, rest, rest_impact, threshold}
use Rattle.ats_bound.specs.Schedule.{IsCut, IsNextLane, WholeLane, shown, shown_at}
use Rattle.ats_bound.proofs.Shown.{get_or-shown}

pub record IsGreatest (lanes : List ShownLane) (i place greatest : ℕ) : Type 0 where
  pub most : (j : ℕ) (d : ShownLane) → j < i → rest (get_or lanes j d) ≤ greatest
  pub inside : 0 < greatest → place < i
  pub is : (d : ShownLane) → 0 < greatest → rest (get_or lanes place d) ≡ greatest
  pub first : (j : ℕ) (d : ShownLane) → 0 < greatest → j < place → rest (get_or lanes j d) < greatest

pub none_yet : (lanes : List ShownLane) → IsGreatest lanes 0 0 0
none_yet lanes = record {
  most = λ j d less. absurd (omega (arith, less));
  inside = λ more. absurd (omega (arith, more));
  is = λ d more. absurd (omega (arith, more));
  first = λ j d more less. absurd (omega (arith, more));
}

-- a greater one takes its place
pub greater : (lanes : List ShownLane) (i place greatest amount : ℕ) → IsGreatest lanes i place greatest → ((d : ShownLane) → amount ≡ rest (get_or lanes i d))
    → greatest < amount → IsGreatest lanes (i + 1) i amount
greater lanes i place greatest amount so_far here more = record {
  most = λ j d less. elim (cases_lt j i) [
    | inl before ↦ omega (arith, so_far.most j d before, more)
    | inr after ↦
        let is : j ≡ i = omega (arith, less, after) in
        rw is (omega (arith, here d))
  ];
  inside = λ some. omega arith;
  is = λ d some. sym (here d);
  first = λ j d some less. omega (arith, so_far.most j d less, more);
}

-- another does not
pub no_greater : (lanes : List ShownLane) (i place greatest amount : ℕ) → IsGreatest lanes i place greatest → ((d : ShownLane) → amount ≡ rest (get_or lanes i d))
    → amount ≤ greatest → IsGreatest lanes (i + 1) place greatest
no_greater lanes i place greatest amount so_far here few = record {
  most = λ j d less. elim (cases_lt j i) [
    | inl before ↦ so_far.most j d before
    | inr after ↦
        let is : j ≡ i = omega (arith, less, after) in
        rw is (omega (arith, here d, few))
  ];
  inside = λ some. omega (arith, so_far.inside some);
  is = so_far.is;
  first = so_far.first;
}

-- if the largest is 0, the threshold is
pub none_left : (lanes : List ShownLane) (place : ℕ) → IsGreatest lanes (length lanes) place 0 → threshold lanes ≡ 0
none_left lanes place all =
    let most : threshold lanes ≤ length lanes * 0 = sum_by-le rest 0 lanes (λ j d inside. all.most j d inside) in
    omega (arith, most)

open_of : (lane : ShownLane) → length lane.shown ≤ lane.total → 0 < rest lane → length lane.shown < lane.total
open_of lane most some = elim (cases_order (length lane.shown) lane.total) [
  | inl is ↦
      let yes : nat_eq (length lane.shown) lane.total ≡ true = grind (arith, nat_tests) in
      let none : rest_impact lane ≡ 0 = ap (λ x. cond x 0 (get_or (map (λ (entry : Entry). entry.impact) lane.shown) (length lane.shown - 1) 0)) yes in
      let nothing : rest lane ≡ 0 = ap (λ n. lane.coefficient * n) none ∙ mul-zero lane.coefficient in
      absurd (omega (arith, nothing, some))
  | inr other ↦ elim other [ inl less ↦ less | inr greater ↦ absurd (omega (arith, most, greater)) ]
]

-- else its place is the next lane
pub next_at : (lanes : List WholeLane) (cut : List ℕ) (place greatest : ℕ) → IsCut lanes cut → IsGreatest (shown lanes cut) (length lanes) place greatest
    → 0 < greatest → IsNextLane lanes cut place
next_at lanes cut place greatest is all some =
    let d : ShownLane = record { coefficient = 0; total = 0; shown = [] } in
    let e : WholeLane = record { coefficient = 0; entries = [] } in
    let inside : place < length lanes = all.inside some in
    let here : shown_at lanes cut place ≡ lane_of (get_or lanes place e).coefficient (get_or lanes place e).entries (get_or cut place 0) =
    get_or-shown lanes cut place d e inside (omega (arith, is.size)) in
    let most : length (shown_at lanes cut place).shown ≤ (shown_at lanes cut place).total =
    rw here (omega (arith, length-take (get_or cut place 0) (get_or lanes place e).entries)) in
    record {
      inside = inside;
      more = open_of (shown_at lanes cut place) most (omega (arith, all.is d some, some));
      greatest = λ j inside open_j. omega (arith, all.most j d inside, all.is d some);
      least = λ j less open_j. omega (arith, all.first j d some less, all.is d some);
    }

-- The walk takes turn after turn until an answer is settled.
use Rattle.std.proofs.Common.{◌<◌, ◌+◌, ℕ, zero, suc, List, set, get_or, refl, sym, subst, arith, inl, inr}
use Rattle.std.proofs.lemmas.Bool.{cases_order}
use Rattle.ats_bound.specs.declared.walk.Walk.{Walk}
use Rattle.ats_bound.specs.Settled.{IsSettled}
use Rattle.ats_bound.specs.Schedule.{WholeLane, Bounding, IsNextLane, IsScheduled, CanSettleBy, IsFirstCut, IsFirstSettledBy, first_cut}
use Rattle.ats_bound.specs.Stopped.{IsStoppedAt}
use Rattle.ats_bound.specs.Inner.Stopped.{IsEnd, IsReached}
use Rattle.ats_bound.proofs.OneCut.{one_schedule}

-- the walk begins at the first cut
pub reached_first : (Stops : List ℕ → Type 0) (lanes : List WholeLane) → IsReached Stops lanes (first_cut lanes)
reached_first Stops lanes = record {
  turns = 0;
  scheduled = refl;
  none = λ n earlier less is can. omega (arith, less);
}

-- if it does not stop, the walk goes on with the next cut
pub reached_after : (Stops : List ℕ → Type 0) (lanes : List WholeLane) (cut : List ℕ) (i : ℕ) → IsReached Stops lanes cut → (Stops cut → ⊥)
    → IsNextLane lanes cut i → IsReached Stops lanes (set cut i (get_or cut i 0 + 1))
reached_after Stops lanes cut i reached cannot next = record {
  turns = suc reached.turns;
  scheduled = (cut, reached.scheduled, record { place = i; next = next; counts = refl });
  none = λ n earlier less is can. elim (cases_order n reached.turns) [
    | inl same ↦
        let here : IsScheduled lanes reached.turns earlier = subst (λ (m : ℕ). IsScheduled lanes m earlier) same is in
        cannot (subst Stops (one_schedule lanes reached.turns earlier cut here reached.scheduled) can)
    | inr other ↦ elim other [
      | inl before ↦ reached.none n earlier before is can
      | inr after ↦ absurd (omega (arith, less, after))
    ]
  ];
}

-- each cut before the last goes on with a next list
goes_on : (lanes : List WholeLane) (n m : ℕ) (cut after : List ℕ) → n < m → IsScheduled lanes n cut → IsScheduled lanes m after → (i : ℕ) × IsNextLane lanes cut i
goes_on lanes n zero cut after less first later = absurd (omega (arith, less))
goes_on lanes n (suc m) cut after less first later = elim (cases_order n m) [
  | inl same ↦
      let here : IsScheduled lanes m cut = subst (λ (k : ℕ). IsScheduled lanes k cut) same first in
      (later.2.place, subst (λ (c : List ℕ). IsNextLane lanes c later.2.place) (one_schedule lanes m later.0 cut later.1 here) later.2.next)
  | inr other ↦ elim other [
    | inl before ↦ goes_on lanes n m cut later.0 before first later.1
    | inr after_it ↦ absurd (omega (arith, less, after_it))
  ]
]

-- if it does not stop and no list comes next, it stops nowhere
pub stops_nowhere : (Stops : List ℕ → Type 0) (lanes : List WholeLane) (cut : List ℕ) → IsReached Stops lanes cut → (Stops cut → ⊥)
    → ((i : ℕ) → IsNextLane lanes cut i → ⊥) → (other : List ℕ) → IsFirstCut Stops lanes other → ⊥
stops_nowhere Stops lanes cut reached cannot last other first = elim (cases_order first.turns reached.turns) [
  | inl same ↦
      let here : IsScheduled lanes reached.turns other = subst (λ (m : ℕ). IsScheduled lanes m other) same first.scheduled in
      cannot (subst Stops (one_schedule lanes reached.turns other cut here reached.scheduled) first.stops)
  | inr apart ↦ elim apart [
    | inl before ↦ reached.none first.turns other before first.scheduled first.stops
    | inr after ↦
        let next = goes_on lanes reached.turns first.turns cut other after reached.scheduled first.scheduled in
        last next.0 next.1
  ]
]

-- if it stops, this cut is the first
pub first_here : (Stops : List ℕ → Type 0) (lanes : List WholeLane) (cut : List ℕ) → IsReached Stops lanes cut → Stops cut → IsFirstCut Stops lanes cut
first_here Stops lanes cut reached stops = record {
  turns = reached.turns;
  scheduled = reached.scheduled;
  stops = stops;
  first = reached.none;
}

-- if an answer is settled, the walk ends
pub end_at : (bounds : Bounding) (lanes : List WholeLane) (r : ℕ) (cut : List ℕ) (walk : Walk) → IsReached (CanSettleBy bounds lanes r) lanes cut → IsStoppedAt bounds lanes r cut walk
    → IsSettled walk.brackets walk.picks walk.threshold r → IsEnd bounds lanes r walk
end_at bounds lanes r cut walk reached stopped settled =
    let here : IsFirstSettledBy bounds lanes r cut = first_here (CanSettleBy bounds lanes r) lanes cut reached (record {
      brackets = walk.brackets;
      bounded = stopped.brackets;
      answer = walk.picks;
      inside = stopped.inside;
      settled = subst (λ (t : ℕ). IsSettled walk.brackets walk.picks t r) stopped.threshold settled;
    }) in
    record {
      first = subst (λ (c : List ℕ). IsFirstSettledBy bounds lanes r c) (sym stopped.cut) here;
      stopped = subst (λ (c : List ℕ). IsStoppedAt bounds lanes r c walk) (sym stopped.cut) stopped;
      settled = settled;
    }

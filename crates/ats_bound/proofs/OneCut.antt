-- The schedule has one cut after each number of turns, and so one first settled cut.
use Rattle.std.proofs.Common.{◌≡◌, ◌+◌, ℕ, zero, suc, List, set, get_or, sym, ap, subst, ◌∙◌, arith, inl, inr}
use Rattle.std.proofs.lemmas.Bool.{cases_order}
use Rattle.ats_bound.specs.Schedule.{WholeLane, IsNextLane, IsTurn, IsScheduled, Bounding, CanSettleBy, IsFirstCut, IsFirstSettledBy}

-- only one list is next
pub one_next : (lanes : List WholeLane) (cut : List ℕ) (i j : ℕ) → IsNextLane lanes cut i → IsNextLane lanes cut j → i ≡ j
one_next lanes cut i j first second = elim (cases_order i j) [
  | inl same ↦ same
  | inr other ↦ elim other [
    | inl less ↦ absurd (omega (arith, second.least i less first.more, first.greatest j second.inside second.more))
    | inr greater ↦ absurd (omega (arith, first.least j greater second.more, second.greatest i first.inside first.more))
  ]
]

-- a turn has one outcome
pub one_turn : (lanes : List WholeLane) (cut a b : List ℕ) → IsTurn lanes cut a → IsTurn lanes cut b → a ≡ b
one_turn lanes cut a b first second =
    first.counts ∙ ap (λ i. set cut i (get_or cut i 0 + 1)) (one_next lanes cut first.place second.place first.next second.next) ∙ sym second.counts

-- n turns lead to one cut
pub one_schedule : (lanes : List WholeLane) (n : ℕ) (a b : List ℕ) → IsScheduled lanes n a → IsScheduled lanes n b → a ≡ b
one_schedule lanes zero a b first second = first ∙ sym second
one_schedule lanes (suc n) a b first second =
    let same : first.0 ≡ second.0 = one_schedule lanes n first.0 second.0 first.1 second.1 in
    one_turn lanes second.0 a b (subst (λ (cut : List ℕ). IsTurn lanes cut a) same first.2) second.2

-- of two first cuts neither is before the other
pub one_first : (Stops : List ℕ → Type 0) (lanes : List WholeLane) (a b : List ℕ) → IsFirstCut Stops lanes a → IsFirstCut Stops lanes b → a ≡ b
one_first Stops lanes a b first second = elim (cases_order first.turns second.turns) [
  | inl same ↦ one_schedule lanes second.turns a b (subst (λ (n : ℕ). IsScheduled lanes n a) same first.scheduled) second.scheduled
  | inr other ↦ elim other [
    | inl less ↦ absurd (second.first first.turns a less first.scheduled first.stops)
    | inr greater ↦ absurd (first.first second.turns b greater second.scheduled second.stops)
  ]
]

pub one_first_settled : (bounds : Bounding) (lanes : List WholeLane) (r : ℕ) (a b : List ℕ) → IsFirstSettledBy bounds lanes r a → IsFirstSettledBy bounds lanes r b → a ≡ b
one_first_settled bounds lanes r a b = one_first (CanSettleBy bounds lanes r) lanes a b

-- A walk of whole lanes ends: the schedule has a first cut at which an answer is settled.
use Rattle.std.proofs.Common.{◌≡◌, ◌⊎◌, ◌<◌, ◌≤◌, ◌+◌, ℕ, zero, suc, List, length, set, get_or, refl, ap, arith, add-one, inl, inr}
use Rattle.std.specs.List.{sum_by}
use Rattle.std.proofs.lemmas.Bool.{cases_lt}
use Rattle.std.proofs.lemmas.List.{get_or_default}
use Rattle.ats_bound.specs.declared.bracket.Bracket.{Bracket}
use Rattle.ats_bound.specs.Cut.{ShownLane, bracket, lo_of, missing, rest, threshold}
use Rattle.ats_bound.specs.Settled.{bracket_at}
use Rattle.ats_bound.specs.Narrow.{AreNarrow}
use Rattle.ats_bound.specs.Schedule.{WholeLane, Bounding, AreWholeLanes, CanSettleBy, IsCut, IsFirstCut, IsFirstSettledBy, IsNextLane, first_cut, shown}
use Rattle.ats_bound.specs.Inner.Stopped.{IsReached}
use Rattle.ats_bound.specs.Lookup.{Table, looked_up}
use Rattle.ats_bound.proofs.Advance.{first_here, reached_first, reached_after}
use Rattle.ats_bound.proofs.Chain.{chosen_are_picks, even_settled}
use Rattle.ats_bound.proofs.Decided.{IsDecided}
use Rattle.ats_bound.proofs.Deciding.{decided_can_settle}
use Rattle.ats_bound.proofs.Gathered.{brackets_exist}
use Rattle.ats_bound.proofs.Greatest.{IsGreatest, none_yet, greater, no_greater, none_left, next_at}
use Rattle.ats_bound.proofs.Narrow.{is_narrow}
use Rattle.ats_bound.proofs.Scores.{held_or_missing}
use Rattle.ats_bound.proofs.Shown.{cut_after, fewer_hidden, first_is_cut, have_entries, hidden, length-shown, no_shown}
use Rattle.ats_bound.proofs.Sorted.{chosen_exists}

-- the largest rest of the first lanes is at some place
abbrev HasGreatest : List ShownLane → ℕ → Type 0
HasGreatest lanes i = (place : ℕ) × (greatest : ℕ) × IsGreatest lanes i place greatest

has_greatest : (lanes : List ShownLane) (i : ℕ) → i ≤ length lanes → HasGreatest lanes i
has_greatest lanes zero few = (0, 0, none_yet lanes)
has_greatest lanes (suc i) few =
    let before = has_greatest lanes i (omega (arith, few)) in
    let amount : ℕ = rest (get_or lanes i no_shown) in
    let here : (d : ShownLane) → amount ≡ rest (get_or lanes i d) = λ d. ap rest (get_or_default lanes i no_shown d (omega (arith, few))) in
    let next : HasGreatest lanes (i + 1) = elim (cases_lt before.1 amount) [
      | inl more ↦ (i, amount, greater lanes i before.0 before.1 amount before.2 here more)
      | inr most ↦ (before.0, before.1, no_greater lanes i before.0 before.1 amount before.2 here most)
    ] in
    rw add-one at next

next_from : (lanes : List WholeLane) (cut : List ℕ) (place greatest : ℕ) → IsCut lanes cut → IsGreatest (shown lanes cut) (length lanes) place greatest
    → (threshold (shown lanes cut) ≡ 0) ⊎ ((i : ℕ) × IsNextLane lanes cut i)
next_from lanes cut place greatest is all = elim (cases_lt 0 greatest) [
  | inl some ↦ inr (place, next_at lanes cut place greatest is all some)
  | inr none ↦
      let size : length (shown lanes cut) ≡ length lanes = length-shown lanes cut is.size in
      let zero_is : greatest ≡ 0 = omega (arith, none) in
      inl (none_left (shown lanes cut) place (rw (size, ← zero_is) all))
]

-- either a list is next, or nothing that is not shown can add to a score
next_or_none : (lanes : List WholeLane) (cut : List ℕ) → IsCut lanes cut → (threshold (shown lanes cut) ≡ 0) ⊎ ((i : ℕ) × IsNextLane lanes cut i)
next_or_none lanes cut is =
    let found = has_greatest (shown lanes cut) (length lanes) (omega (arith, length-shown lanes cut is.size)) in
    next_from lanes cut found.0 found.1 is found.2

-- a walk ends, if it is decided at each cut whether it stops there, and it stops where nothing that is not shown can add
-- to a score
module _ (Stops : List ℕ → Type 0) (lanes : List WholeLane) (decided : (cut : List ℕ) → IsDecided (Stops cut))
    (at_none : (cut : List ℕ) → IsCut lanes cut → threshold (shown lanes cut) ≡ 0 → Stops cut) where
  abbrev left : List ℕ → ℕ
  left cut = sum_by hidden (shown lanes cut)

  abbrev IsEnd : List ℕ → Type 0
  IsEnd cut = IsFirstCut Stops lanes cut

  -- a later cut that shows more
  record IsLater (cut after : List ℕ) : Type 0 where
    cuts : IsCut lanes after
    fewer : left after < left cut
    reached : IsReached Stops lanes after

  end_or_more : (cut : List ℕ) → IsCut lanes cut → IsReached Stops lanes cut → IsEnd cut ⊎ ((after : List ℕ) × IsLater cut after)
  end_or_more cut is reached = elim (decided cut) [
    | inl can ↦ inl (first_here Stops lanes cut reached can)
    | inr cannot ↦ elim (next_or_none lanes cut is) [
      | inl none ↦ absurd (cannot (at_none cut is none))
      | inr next ↦ inr (
        set cut next.0 (get_or cut next.0 0 + 1),
        record {
          cuts = cut_after lanes cut next.0 is next.1.inside next.1.more;
          fewer = fewer_hidden lanes cut next.0 is next.1.inside next.1.more;
          reached = reached_after Stops lanes cut next.0 reached cannot next.1;
        },
      )
    ]
  ]

  -- if at most `most` entries are not shown
  ends : (most : ℕ) (cut : List ℕ) → left cut ≤ most → IsCut lanes cut → IsReached Stops lanes cut → (end : List ℕ) × IsEnd end
  ends zero cut few is reached = elim (end_or_more cut is reached) [
    | inl end ↦ (cut, end)
    | inr later ↦ absurd (omega (arith, later.1.fewer, few))
  ]
  ends (suc most) cut few is reached = elim (end_or_more cut is reached) [
    | inl end ↦ (cut, end)
    | inr later ↦ ends most later.0 (omega (arith, later.1.fewer, few)) later.1.cuts later.1.reached
  ]

  -- there is a first cut at which it stops
  pub first_exists : AreWholeLanes lanes → (cut : List ℕ) × IsFirstCut Stops lanes cut
  first_exists whole =
      ends (sum_by hidden (shown lanes (first_cut lanes))) (first_cut lanes) (omega arith) (first_is_cut lanes (have_entries lanes whole)) (reached_first Stops lanes)

module _ (bounds : Bounding) (lanes : List WholeLane) (r : ℕ) (narrow : AreNarrow bounds) where
  -- if nothing that is not shown can add to a score, an answer is settled
  settled_at_none : (cut : List ℕ) → IsCut lanes cut → threshold (shown lanes cut) ≡ 0 → CanSettleBy bounds lanes r cut
  settled_at_none cut _ none =
      let made = brackets_exist bounds (shown lanes cut) (λ doc. (narrow (shown lanes cut) doc).of) in
      let brackets : List Bracket = made.0 in
      let chosen = chosen_exists brackets r in
      let even : (i : ℕ) → i < length brackets → (bracket_at brackets i).hi ≤ (bracket_at brackets i).lo = λ i inside.
      let b : Bracket = bracket_at brackets i in
      let is : b ≡ bounds (shown lanes cut) b.doc = made.1.each i (record { doc = 0; lo = 0; hi = 0 }) inside in
      omega (arith, ap (λ (b : Bracket). b.lo) is, ap (λ (b : Bracket). b.hi) is, (narrow (shown lanes cut) b.doc).narrow, none) in
      record {
        brackets = brackets;
        bounded = made.1;
        answer = chosen.0;
        inside = chosen_are_picks brackets r chosen.0 chosen.1;
        settled = rw (none, chosen.1.first) (even_settled brackets r chosen.1.all even chosen.1.same chosen.1.ordered);
      }

-- there is a first settled cut
pub first_settled_exists : (bounds : Bounding) (lanes : List WholeLane) (r : ℕ) → AreNarrow bounds → AreWholeLanes lanes → (cut : List ℕ) × IsFirstSettledBy bounds lanes r cut
first_settled_exists bounds lanes r narrow whole =
    first_exists (CanSettleBy bounds lanes r) lanes (λ cut. decided_can_settle bounds lanes r cut (narrow (shown lanes cut)))
    (settled_at_none bounds lanes r narrow) whole

-- brackets from the shown entries only are narrow
pub brackets_are_narrow : AreNarrow bracket
brackets_are_narrow lanes doc = is_narrow (threshold lanes) doc (lo_of lanes doc) (missing lanes doc) (omega (arith, held_or_missing lanes doc))

-- so are those of scores that are looked up
pub looked_up_are_narrow : (table : Table) → AreNarrow (looked_up table)
looked_up_are_narrow table lanes doc = record { of = refl; proper = omega arith; narrow = omega arith }

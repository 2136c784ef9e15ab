-- Whether a walk by floors stops at a cut is decided, and the walk ends.
use Rattle.std.proofs.Common.{◌≡◌, ◌<◌, ◌≤◌, ℕ, List, length, subst, inl, inr}
use Rattle.ats_impact.specs.Rank.{times}
use Rattle.ats_bound.specs.declared.bracket.Bracket.{Bracket}
use Rattle.ats_bound.specs.Chosen.{IsChosen}
use Rattle.ats_bound.specs.Cut.{threshold}
use Rattle.ats_bound.specs.Floors.{Floors, IsInSpan, AreWithin, IsWithinBy, IsFirstWithinBy, span_at}
use Rattle.ats_bound.specs.Narrow.{AreNarrow}
use Rattle.ats_bound.specs.Schedule.{AreWholeLanes, Bounding, IsCut, WholeLane, shown}
use Rattle.ats_bound.specs.Settled.{bracket_at, row}
use Rattle.ats_bound.proofs.Decided.{IsDecided, decided_below, decided_eq, decided_if, decided_le}
use Rattle.ats_bound.proofs.Ending.{first_exists}
use Rattle.ats_bound.proofs.Gathered.{brackets_exist}
use Rattle.ats_bound.proofs.One.{one_bracketing, risen_are_distinct}
use Rattle.ats_bound.proofs.OneAnswer.{one_chosen}
use Rattle.ats_bound.proofs.Sorted.{chosen_exists}

module _ (brackets : List Bracket) (picks : List ℕ) (threshold_here : ℕ) (floors : Floors) where
  abbrev InSpan : ℕ → Type 0
  InSpan k = IsInSpan (span_at floors.spans k) (row brackets picks k)

  decided_span : (k : ℕ) → IsDecided (InSpan k)
  decided_span k = elim (decided_le (span_at floors.spans k).lower (row brackets picks k).lo) [
    | inr not ↦ inr (λ is. not is.least)
    | inl least ↦ elim (decided_le (row brackets picks k).hi (span_at floors.spans k).upper) [
      | inr not ↦ inr (λ is. not is.most)
      | inl most ↦ inl (record { least = least; most = most })
    ]
  ]

  abbrev Below : ℕ → Type 0
  Below i = times i picks ≡ 0 → (bracket_at brackets i).hi ≤ floors.floor

  decided_others : IsDecided ((i : ℕ) → i < length brackets → Below i)
  decided_others = decided_below Below (λ i. decided_if (decided_eq (times i picks) 0) (decided_le (bracket_at brackets i).hi floors.floor)) (length brackets)

  pub decided_within : IsDecided (AreWithin brackets picks threshold_here floors)
  decided_within = elim (decided_eq (length picks) (length floors.spans)) [
    | inr not ↦ inr (λ is. not is.many)
    | inl many ↦ elim (decided_below InSpan decided_span (length picks)) [
      | inr not ↦ inr (λ is. not is.rows)
      | inl rows ↦ elim decided_others [
        | inr not ↦ inr (λ is. not (λ i low none. is.others i (low, none)))
        | inl others ↦ elim (decided_le threshold_here floors.floor) [
          | inr not ↦ inr (λ is. not is.unmet)
          | inl unmet ↦ inl (record { many = many; rows = rows; others = λ i out. others i out.0 out.1; unmet = unmet })
        ]
      ]
    ]
  ]

pub decided_is_within : (bounds : Bounding) (lanes : List WholeLane) (floors : Floors) (cut : List ℕ) → AreNarrow bounds → IsDecided (IsWithinBy bounds lanes floors cut)
decided_is_within bounds lanes floors cut narrow =
    let here : ℕ = threshold (shown lanes cut) in
    let made = brackets_exist bounds (shown lanes cut) (λ doc. (narrow (shown lanes cut) doc).of) in
    let brackets : List Bracket = made.0 in
    let chosen = chosen_exists brackets (length floors.spans) in
    elim (decided_within brackets chosen.0 here floors) [
      | inl within ↦ inl (record { brackets = brackets; bounded = made.1; answer = chosen.0; chosen = chosen.1; within = within })
      | inr not ↦ inr (λ is.
          let same : is.brackets ≡ brackets = one_bracketing bounds (shown lanes cut) is.brackets brackets is.bounded made.1 in
          let theirs : IsChosen brackets (length floors.spans) is.answer = subst (λ (bs : List Bracket). IsChosen bs (length floors.spans) is.answer) same is.chosen in
          let answer : is.answer ≡ chosen.0 = one_chosen brackets (length floors.spans) is.answer chosen.0 (risen_are_distinct brackets made.1.rise) theirs chosen.1 in
          let within : AreWithin brackets is.answer here floors = subst (λ (bs : List Bracket). AreWithin bs is.answer here floors) same is.within in
          not (subst (λ (picks : List ℕ). AreWithin brackets picks here floors) answer within))
    ]

-- if the whole lists are within the floors, the walk ends
pub first_within_exists : (bounds : Bounding) (lanes : List WholeLane) (floors : Floors) → AreNarrow bounds → AreWholeLanes lanes
    → ((cut : List ℕ) → IsCut lanes cut → threshold (shown lanes cut) ≡ 0 → IsWithinBy bounds lanes floors cut)
    → (cut : List ℕ) × IsFirstWithinBy bounds lanes floors cut
first_within_exists bounds lanes floors narrow whole at_none =
    first_exists (IsWithinBy bounds lanes floors) lanes (λ cut. decided_is_within bounds lanes floors cut narrow) at_none whole

-- Whether any answer is settled at a cut is decidable, since one is exactly if the chosen one is.
use Rattle.std.proofs.Common.{◌≡◌, ◌⊎◌, ◌<◌, ◌≤◌, ◌+◌, min, ℕ, nat_eq, cond, List, length, take, drop, subst, ◌∙◌, arith, inl, inr, take_all, length-take}
use Rattle.std.specs.List.{range_with_len}
use Rattle.std.specs.List.Sorted.{IsPermutation}
use Rattle.std.proofs.lemmas.Bool.{cases_lt}
use Rattle.std.proofs.lemmas.List.FromFn.{length-range_with_len}
use Rattle.std.proofs.lemmas.List.Sums.{sum_by-take-drop}
use Rattle.std.proofs.lemmas.List.Sorted.{length_permutation, sum_by-IsPermutation}
use Rattle.ats_impact.specs.Rank.{times}
use Rattle.ats_bound.specs.declared.bracket.Bracket.{Bracket}
use Rattle.ats_bound.specs.Cut.{threshold}
use Rattle.ats_bound.specs.Settled.{AreDistinct, IsSettled, ArePicks, bracket_at, row, last_row}
use Rattle.ats_bound.specs.Chosen.{IsChosen}
use Rattle.ats_bound.specs.Narrow.{IsNarrow}
use Rattle.ats_bound.specs.Schedule.{WholeLane, Bounding, CanSettleBy, shown}
use Rattle.ats_bound.proofs.Places.{range_once, range_has}
use Rattle.ats_bound.proofs.Chain.{chosen_are_picks, chosen_is_settled}
use Rattle.ats_bound.proofs.One.{are_brackets, one_bracketing}
use Rattle.ats_bound.proofs.Decided.{IsDecided, decided_below, decided_eq, decided_if, decided_le, decided_lt}
use Rattle.ats_bound.proofs.Gathered.{brackets_exist}
use Rattle.ats_bound.proofs.Sorted.{chosen_exists}

module _ (brackets : List Bracket) (threshold r : ℕ) (all : List ℕ) (same : IsPermutation (range_with_len 0 (length brackets)) all) where
  abbrev n : ℕ
  n = length brackets

  abbrev picks : List ℕ
  picks = take r all

  size : length picks ≡ min r n
  size =
      let whole : length all ≡ n = length_permutation _ _ same ∙ length-range_with_len 0 n in
      rw whole at (length-take r all)

  times_all : (i : ℕ) → times i all ≡ times i (range_with_len 0 n)
  times_all i = sum_by-IsPermutation (λ x. cond (nat_eq x i) 1 0) _ _ same

  once : AreDistinct picks
  once i =
      let split : times i (take r all) + times i (drop r all) ≡ times i all = sum_by-take-drop (λ x. cond (nat_eq x i) 1 0) all r in
      omega (arith, split, times_all i, range_once i 0 n)

  -- it has r rows, or every bracket's document
  abbrev IsFull : Type 0
  IsFull = (length picks ≡ r) ⊎ (((i : ℕ) → i < n → 1 ≤ times i picks) × (threshold ≡ 0))

  decided_full : IsDecided IsFull
  decided_full = elim (cases_lt n r) [
    | inr long ↦ inl (inl (omega (arith, size, long)))
    | inl short ↦
        let whole : length all ≡ n = length_permutation _ _ same ∙ length-range_with_len 0 n in
        let all_of : picks ≡ all = take_all r all (omega (arith, whole, short)) in
        elim (decided_eq threshold 0) [
          | inl none ↦ inl (inr ((λ (i : ℕ) (low : i < n). rw all_of (omega (arith, times_all i, range_has i n low))), none))
          | inr some ↦ inr (λ full. elim full [
            | inl rows ↦ omega (arith, rows, size, short)
            | inr every ↦ some every.1
          ])
        ]
  ]

  abbrev Falls : ℕ → Type 0
  Falls k = k + 1 < length picks → (row brackets picks (k + 1)).hi ≤ (row brackets picks k).lo

  decided_falling : IsDecided ((k : ℕ) → k < length picks → Falls k)
  decided_falling =
      decided_below Falls (λ k. decided_if (decided_lt (k + 1) (length picks)) (decided_le (row brackets picks (k + 1)).hi (row brackets picks k).lo)) (length picks)

  -- a bracket that is not picked is below the last row
  abbrev IsBelow : ℕ → Type 0
  IsBelow i = times i picks ≡ 0 → 0 < length picks → (bracket_at brackets i).hi ≤ (last_row brackets picks).lo

  decided_rest : IsDecided ((i : ℕ) → i < n → IsBelow i)
  decided_rest =
      decided_below IsBelow (λ i. decided_if (decided_eq (times i picks) 0) (decided_if (decided_lt 0 (length picks)) (decided_le (bracket_at brackets i).hi (last_row brackets picks).lo))) n

  decided_unmet : IsDecided (0 < length picks → 0 < threshold → threshold ≤ (last_row brackets picks).lo)
  decided_unmet = decided_if (decided_lt 0 (length picks)) (decided_if (decided_lt 0 threshold) (decided_le threshold (last_row brackets picks).lo))

  -- whether the first r of all are settled
  decided_first : IsDecided (IsSettled brackets picks threshold r)
  decided_first = elim decided_full [
    | inr not ↦ inr (λ settled. not settled.whole)
    | inl full ↦ elim decided_falling [
      | inr not ↦ inr (λ settled. not (λ k inside. settled.falling k))
      | inl falling ↦ elim decided_rest [
        | inr not ↦ inr (λ settled. not (λ i low none some. settled.rest i (low, none) some))
        | inl rest ↦ elim decided_unmet [
          | inr not ↦ inr (λ settled. not settled.unmet)
          | inl unmet ↦ inl (record {
            once = once;
            most = omega (arith, size);
            whole = full;
            falling = λ k inside. falling k (omega (arith, inside)) inside;
            rest = λ i out some. rest i out.0 out.1 some;
            unmet = unmet;
          })
        ]
      ]
    ]
  ]

-- whether the chosen answer is settled
pub decided_settled : (brackets : List Bracket) (threshold r : ℕ) (picks : List ℕ) → IsChosen brackets r picks → IsDecided (IsSettled brackets picks threshold r)
decided_settled brackets threshold r picks chosen = rw chosen.first (decided_first brackets threshold r chosen.all chosen.same)

-- whether some answer is settled at a cut, if no lower bound is above its upper bound
pub decided_can_settle : (bounds : Bounding) (lanes : List WholeLane) (r : ℕ) (cut : List ℕ)
    → ((doc : ℕ) → IsNarrow (threshold (shown lanes cut)) doc (bounds (shown lanes cut) doc)) → IsDecided (CanSettleBy bounds lanes r cut)
decided_can_settle bounds lanes r cut narrow =
    let threshold_here : ℕ = threshold (shown lanes cut) in
    let made = brackets_exist bounds (shown lanes cut) (λ doc. (narrow doc).of) in
    let brackets : List Bracket = made.0 in
    let chosen = chosen_exists brackets r in
    let inside : ArePicks brackets chosen.0 = chosen_are_picks brackets r chosen.0 chosen.1 in
    elim (decided_settled brackets threshold_here r chosen.0 chosen.1) [
      | inl settled ↦ inl (record { brackets = brackets; bounded = made.1; answer = chosen.0; inside = inside; settled = settled })
      | inr not ↦ inr (λ can.
          let is : can.brackets ≡ brackets = one_bracketing bounds (shown lanes cut) can.brackets brackets can.bounded made.1 in
          not (chosen_is_settled brackets threshold_here r can.answer chosen.0 (are_brackets bounds (shown lanes cut) brackets (λ doc. (narrow doc).proper) made.1)
          (subst (λ (bs : List Bracket). ArePicks bs can.answer) is can.inside)
          (subst (λ (bs : List Bracket). IsSettled bs can.answer threshold_here r) is can.settled) chosen.1))
    ]

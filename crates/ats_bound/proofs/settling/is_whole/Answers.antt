use Rattle.std.proofs.Common.{◌≡◌, ◌⊎◌, ◌<◌, ◌≤◌, ℕ, List, length, inl, inr, arith}
use Rattle.ats_impact.specs.Rank.{times}
use Rattle.ats_bound.proofs.settling.is_whole.Goals as goal

pub returns : goal.returns
returns c =
    let picks : List ℕ = c.args.picks.now in
    let zero_threshold : c.args.threshold ≡ 0 = omega arith in (
      λ yes. inr (c.are_all_picked.ensures.0 yes, zero_threshold),
      λ (whole : (length picks ≡ c.args.rows) ⊎ (((i : ℕ) → i < length c.args.brackets.now → 1 ≤ times i picks) × (c.args.threshold ≡ 0))).
          elim whole [
            | inl full ↦ absurd (omega (arith, full))
            | inr every ↦ c.are_all_picked.ensures.1 every.0
          ],
    )

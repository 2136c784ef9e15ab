use Rattle.std.proofs.Common.{◌≡◌, ◌⊎◌, ◌+◌, ◌<◌, ◌≤◌, ℕ, List, length, ap, arith, rules}
use Rattle.ats_impact.specs.Rank.{times}
use Rattle.ats_bound.specs.declared.bracket.Bracket.{Bracket}
use Rattle.ats_bound.specs.Settled.{AreDistinct, IsOutside, IsSettled, row, last_row}
use Rattle.ats_bound.proofs.settling.rows_settled.Goals as goal

pub returns-then-threshold-score : goal.returns-then-threshold-score
returns-then-threshold-score c =
    let brackets : List Bracket = c.args.brackets.now in
    let picks : List ℕ = c.args.picks.now in
    let some : 0 < length picks = search rules in
    let once : AreDistinct picks = c.are_distinct.ensures.0 c.if-not-are_distinct.false in
    let falling : (k : ℕ) → k + 1 < length picks → (row brackets picks (k + 1)).hi ≤ (row brackets picks k).lo = c.rows_fall.ensures.0 c.if-not-rows_fall.false in
    let whole : (length picks ≡ c.args.rows) ⊎ (((i : ℕ) → i < length brackets → 1 ≤ times i picks) × (c.args.threshold ≡ 0)) = c.is_whole.ensures.0 c.if-not-is_whole.false in
    let score : c.picked-score.result.lo ≡ (last_row brackets picks).lo = ap (λ (b : Bracket). b.lo) c.picked-score.ensures in (
      λ yes. record {
        once = once;
        most = omega arith;
        whole = whole;
        falling = falling;
        rest = λ (i : ℕ) (out : IsOutside brackets picks i) (_ : 0 < length picks). rw score at (c.rest_is_within.ensures.0 yes i out);
        unmet = λ (_ : 0 < length picks) (_ : 0 < c.args.threshold). omega (arith, score);
      },
      λ (settled : IsSettled brackets picks c.args.threshold c.args.rows).
          c.rest_is_within.ensures.1 (λ (i : ℕ) (out : IsOutside brackets picks i). rw score (settled.rest i out some)),
    )

-- If nothing that is not shown can add to a score, the chosen answer is settled.
use Rattle.std.proofs.Common.{◌≡◌, ◌<◌, ◌≤◌, ℕ, List, length, take, ap, ◌∙◌, arith}
use Rattle.ats_bound.specs.declared.bracket.Bracket.{Bracket}
use Rattle.ats_bound.specs.declared.walk.Walk.{Walk}
use Rattle.ats_bound.specs.Cut.{threshold}
use Rattle.ats_bound.specs.Settled.{IsSettled, bracket_at}
use Rattle.ats_bound.specs.Schedule.{WholeLane, Bounding, shown}
use Rattle.ats_bound.specs.Narrow.{IsNarrow}
use Rattle.ats_bound.specs.Stopped.{IsStoppedAt}
use Rattle.ats_bound.proofs.Chain.{even_settled}

-- at a threshold of 0 the chosen answer is settled
pub whole_settled : (bounds : Bounding) (lanes : List WholeLane) (r : ℕ) (cut : List ℕ) (walk : Walk)
    → ((doc : ℕ) → IsNarrow (threshold (shown lanes cut)) doc (bounds (shown lanes cut) doc)) → IsStoppedAt bounds lanes r cut walk → threshold (shown lanes cut) ≡ 0
    → IsSettled walk.brackets walk.picks walk.threshold r
whole_settled bounds lanes r cut walk narrow stopped none =
    let brackets : List Bracket = walk.brackets in
    let even : (i : ℕ) → i < length brackets → (bracket_at brackets i).hi ≤ (bracket_at brackets i).lo = λ i inside.
    let b : Bracket = bracket_at brackets i in
    let is : b ≡ bounds (shown lanes cut) b.doc = stopped.brackets.each i (record { doc = 0; lo = 0; hi = 0 }) inside in
    omega (arith, ap (λ (b : Bracket). b.lo) is, ap (λ (b : Bracket). b.hi) is, (narrow b.doc).narrow, none) in
    let settled : IsSettled brackets (take r stopped.chosen.all) 0 r = even_settled brackets r stopped.chosen.all even stopped.chosen.same stopped.chosen.ordered in
    rw (stopped.threshold ∙ none, stopped.chosen.first) settled

use Rattle.std.proofs.Common.{sym, ◌∙◌, arith}
use Rattle.ats_impact.proofs.Parts.{part_none, part_some}
use Rattle.ats_impact.proofs.scores.part.Goals as goal

pub returns-then-count-eq0-clause-value : goal.returns-then-count-eq0-clause-value
returns-then-count-eq0-clause-value c pair factor count = part_none _ _ pair (sym count ∙ c.if-count-eq0.true)

pub returns-clause-value : goal.returns-clause-value
returns-clause-value c pair factor count =
    part_some _ _ pair _ _ (rw (← count) (omega arith)) factor
    (c.from.ensures ∙ rw (← count, ← c.total.ensures.value, ← c.len.ensures.value, ← c.documents.ensures.value) c.impact-impact.ensures.value)

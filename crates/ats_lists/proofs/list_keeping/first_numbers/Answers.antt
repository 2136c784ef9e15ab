use Rattle.std.proofs.Common.{ℕ, List, [], ◌∷◌, ◌++◌, sym, ap, ◌∙◌, arith}
use Rattle.ats_lists.proofs.Fronts.{range-more}
use Rattle.ats_lists.proofs.list_keeping.first_numbers.Goals as goal

pub loop-i-preserved : goal.loop-i-preserved
loop-i-preserved c =
    c.in_ok-push.ensures.items
    ∙ ap (λ (xs : List ℕ). xs ++ c.loop-i.i ∷ []) c.loop-i.invariant
    ∙ sym (range-more 0 c.loop-i.i c.loop-i.i (omega arith))

use Rattle.std.proofs.Common.{◌++◌, ℕ, List, [], ◌∷◌, sym, ap, ◌∙◌}
use Rattle.std.proofs.lemmas.List.{map_more}
use Rattle.ats_all_proof.proofs.making.one_of_each.Goals as goal

pub loop-preserved : goal.loop-preserved
loop-preserved c =
    c.in_ok-push.ensures ∙ ap (λ (so_far : List ℕ). so_far ++ 1 ∷ []) c.loop.invariant ∙ sym (map_more (λ (n : ℕ). 1) c.args.counts.now c.loop.index 0 c.loop-test.true)

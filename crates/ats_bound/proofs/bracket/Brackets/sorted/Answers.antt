use Rattle.std.proofs.Common.{rules}
use Rattle.std.proofs.lemmas.List.Sorted.{answers_always}
use Rattle.ats_bound.proofs.bracket.Brackets.sorted.Goals as goal

pub returns : goal.returns
returns c =
    (c.in_ok-sort_by_key.ensures.permutation, c.in_ok-sort_by_key.ensures.sorted (λ b. b.doc) (answers_always _ _ _ (λ f a r g called. search rules)))

use Rattle.std.proofs.Common.{rules}
use Rattle.std.proofs.lemmas.List.Sorted.{answers_always}
use Rattle.ats_bound.proofs.choosing.sort_placed.Goals as goal

pub returns-clause-ordered : goal.returns-clause-ordered
returns-clause-ordered c =
    c.in_ok-sort_by_key.ensures.sorted (λ p. (record { 0 = p.lo }, record { 0 = p.hi }, p.doc)) (answers_always _ _ _ (λ f a r g called. search rules))

use Rattle.std.proofs.Common.{◌≡◌, ℕ, ◌+◌, ◌/◌, ◌<◌, ◌≤◌, List, ◌++◌, length, arith, ◌∙◌, ap, refl, subst, OnOk}
use Rattle.std.specs.List.{All}
use Rattle.ats_tree.specs.Elided.{elided_digests}
use Rattle.ats_tree.specs.Kept.{elided_kept}
use Rattle.ats_tree.proofs.Positions.{within-increasing}
use Rattle.ats_tree.proofs.KeptLemmas.{kept-number}
use Rattle.ats_tree.proofs.KeptElided.{kept-elided}
use Rattle.ats_tree.proofs.keeping.elide_kept.Goals as goal

pub elide_kept_part-outcome-requires-clause-rising : goal.elide_kept_part-outcome-requires-clause-rising
elide_kept_part-outcome-requires-clause-rising c =
    let n : ℕ = length c.args.digests.now / 2 + 1
    in let below : All (λ p. p < 0 + n) c.args.positions.now = λ k d less. omega (arith, c.requires.below k d less)
    in within-increasing (0 + n) c.args.positions.now c.requires.rising below

pub returns-else-is_err-clause-ok : goal.returns-else-is_err-clause-ok
returns-else-is_err-clause-ok c H leaves kept =
    let some : 1 ≤ length leaves =
    omega (arith, kept-number H leaves c.args.digests.now _ _ c.requires.nodes.odd refl refl kept)
    in let digests : elided_kept c.args.digests.now c.args.positions.now ≡ elided_digests H leaves c.args.positions.now =
    ap (λ (ds : List (List ℕ)). elided_kept ds c.args.positions.now) kept ∙ kept-elided H leaves c.args.positions.now some
    in let Holds : List (List ℕ) → Type 0 = λ z. OnOk c.elide_kept_part-outcome.result (c.elide_kept_part-outcome.new.out ≡ c.args.out.now ++ z)
    in subst Holds digests c.elide_kept_part-outcome.ensures.ok

use Rattle.std.proofs.Common.{◌≡◌, ℕ, ◌+◌, ◌/◌, ◌<◌, ◌≤◌, List, length, take, drop, arith, sym, ◌∙◌, ap, refl, subst, IsTrue}
use Rattle.std.specs.List.{All}
use Rattle.std.proofs.lemmas.List.Elements.{All-drop}
use Rattle.ats_tree.specs.Elided.{elided_digests}
use Rattle.ats_tree.specs.Kept.{elided_kept}
use Rattle.ats_tree.proofs.Positions.{within-increasing}
use Rattle.ats_tree.proofs.KeptLemmas.{HasSize, kept-number}
use Rattle.ats_tree.proofs.KeptElided.{kept-elided}
use Rattle.ats_tree.proofs.comparing.begins_with_elided.Goals as goal

pub begins_with_elided_part-requires-clause-rising : goal.begins_with_elided_part-requires-clause-rising
begins_with_elided_part-requires-clause-rising g c =
    let n : ℕ = length c.args.digests.now / 2 + 1
    in let below : All (λ p. p < 0 + n) c.args.positions.now = λ k d less. omega (arith, c.requires.below k d less)
    in within-increasing (0 + n) c.args.positions.now c.requires.rising below

pub returns-clause-exact : goal.returns-clause-exact
returns-clause-exact g c H leaves kept =
    let some : 1 ≤ length leaves =
    omega (arith, kept-number H leaves c.args.digests.now _ _ c.requires.nodes.odd refl refl kept)
    in let digests : elided_kept c.args.digests.now c.args.positions.now ≡ elided_digests H leaves c.args.positions.now =
    ap (λ (ds : List (List ℕ)). elided_kept ds c.args.positions.now) kept ∙ kept-elided H leaves c.args.positions.now some
    in let Exact : List (List ℕ) → Type 0 = λ e.
    (IsTrue c.begins_with_elided_part.result → take (length e) (g.S.PartialTree.digests c.args.shown.now) ≡ e)
    × (take (length e) (g.S.PartialTree.digests c.args.shown.now) ≡ e → IsTrue c.begins_with_elided_part.result)
    in subst Exact digests c.begins_with_elided_part.ensures.exact

pub returns-clause-left : goal.returns-clause-left
returns-clause-left g c H leaves kept holds =
    let some : 1 ≤ length leaves =
    omega (arith, kept-number H leaves c.args.digests.now _ _ c.requires.nodes.odd refl refl kept)
    in let digests : elided_kept c.args.digests.now c.args.positions.now ≡ elided_digests H leaves c.args.positions.now =
    ap (λ (ds : List (List ℕ)). elided_kept ds c.args.positions.now) kept ∙ kept-elided H leaves c.args.positions.now some
    in c.begins_with_elided_part.ensures.left holds
    ∙ ap (λ (e : List (List ℕ)). drop (length e) (g.S.PartialTree.digests c.args.shown.now)) digests

pub returns-clause-rest : goal.returns-clause-rest
returns-clause-rest g c holds =
    subst (All HasSize) (sym (c.begins_with_elided_part.ensures.left holds))
    (All-drop HasSize (length (elided_kept c.args.digests.now c.args.positions.now)) (g.S.PartialTree.digests c.args.shown.now) c.requires.theirs)

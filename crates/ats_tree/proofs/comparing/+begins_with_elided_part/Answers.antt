use Rattle.std.proofs.Common.{◌≡◌, ℕ, ◌+◌, ◌-◌, ◌<◌, ◌≤◌, ◌^◌, List, [], ◌∷◌, length, drop, get_or, arith, refl, sym, ◌∙◌, ap, subst, Some, None}
use Rattle.std.specs.List.{All, slice_get}
use Rattle.std.proofs.lemmas.Bool.{eqb-true, eqb-false}
use Rattle.std.proofs.lemmas.List.Elements.{All-drop}
use Rattle.std.proofs.lemmas.Slice.Eq.{bytes_eq-Decides}
use Rattle.ats_tree.specs.Inner.Part.{RisesWithin}
use Rattle.ats_tree.specs.Elided.{shown_with}
use Rattle.ats_tree.specs.Kept.{elided_part}
use Rattle.ats_tree.proofs.ElidedLemmas.{front-rises, back-rises}
use Rattle.ats_tree.proofs.KeptLemmas.{HasSize}
use Rattle.ats_tree.proofs.KeptElided.{kept-none, kept-shown, kept-parts, left-nodes, right-nodes}
use Rattle.ats_tree.proofs.OwnParts.{no, Begin, begins-one, one-begins, begins-parts, parts-begin, drop-parts}
use Rattle.ats_tree.proofs.comparing.+begins_with_elided_part.Goals as goal

-- no position
pub returns-in-Some-clause-exact : goal.returns-in-Some-clause-exact
returns-in-Some-clause-exact g t c =
    let nodes : List (List ℕ) = c.args.digests.now
    in let ds : List (List ℕ) = g.S.PartialTree.digests c.args.shown.now
    in let own : List ℕ = get_or nodes 0 []
    in let theirs : List ℕ = c.in-Some.theirs
    in let e : elided_part nodes c.args.from c.args.n (shown_with [] c.args.positions.now) ≡ own ∷ [] =
    kept-none nodes [] c.args.from c.args.n c.args.positions.now c.requires.some (eqb-true _ _ (sym c.if-is_empty.ensures))
    in let tried = bytes_eq-Decides theirs own
    in (
      λ holds. subst (Begin ds) (sym e) (begins-one own ds (sym c.in-Some.ensures.first ∙ ap Some (tried.0 (sym c.eq.ensures ∙ holds)))),
      λ is.
          let found : Some theirs ≡ Some own = c.in-Some.ensures.first ∙ one-begins own ds (subst (Begin ds) e is)
          in let same : theirs ≡ own = cc
          in c.eq.ensures ∙ tried.1 same,
    )

pub returns-in-Some-clause-left : goal.returns-in-Some-clause-left
returns-in-Some-clause-left g t c holds =
    let nodes : List (List ℕ) = c.args.digests.now
    in let e : elided_part nodes c.args.from c.args.n (shown_with [] c.args.positions.now) ≡ get_or nodes 0 [] ∷ [] =
    kept-none nodes [] c.args.from c.args.n c.args.positions.now c.requires.some (eqb-true _ _ (sym c.if-is_empty.ensures))
    in c.take_digest.ensures.passed ∙ ap (λ (xs : List (List ℕ)). drop (length xs) (g.S.PartialTree.digests c.args.shown.now)) (sym e)

pub returns-in-None-clause-exact : goal.returns-in-None-clause-exact
returns-in-None-clause-exact g t c =
    let nodes : List (List ℕ) = c.args.digests.now
    in let ds : List (List ℕ) = g.S.PartialTree.digests c.args.shown.now
    in let own : List ℕ = get_or nodes 0 []
    in let e : elided_part nodes c.args.from c.args.n (shown_with [] c.args.positions.now) ≡ own ∷ [] =
    kept-none nodes [] c.args.from c.args.n c.args.positions.now c.requires.some (eqb-true _ _ (sym c.if-is_empty.ensures))
    in (
      no,
      λ is.
          let none : None ≡ slice_get ds 0 = c.in-None.ensures.first
          in let found : None ≡ Some own = none ∙ one-begins own ds (subst (Begin ds) e is)
          in absurd (cc),
    )

-- one leaf, which is shown
pub returns-then-n-eq1-clause-exact : goal.returns-then-n-eq1-clause-exact
returns-then-n-eq1-clause-exact g t c =
    let ne : length c.args.positions.now ≡ 0 → ⊥ = eqb-false _ _ (sym c.if-is_empty.ensures)
    in let some : 0 < length c.args.positions.now = omega arith
    in let e : elided_part c.args.digests.now c.args.from c.args.n (shown_with [] c.args.positions.now) ≡ [] =
    kept-shown c.args.digests.now [] c.args.from c.args.n c.args.positions.now c.if-n-eq1.true some c.requires.rising
    in (λ holds. subst (Begin (g.S.PartialTree.digests c.args.shown.now)) (sym e) refl, λ is. refl)

pub returns-then-n-eq1-clause-left : goal.returns-then-n-eq1-clause-left
returns-then-n-eq1-clause-left g t c holds =
    let ne : length c.args.positions.now ≡ 0 → ⊥ = eqb-false _ _ (sym c.if-is_empty.ensures)
    in let some : 0 < length c.args.positions.now = omega arith
    in let e : elided_part c.args.digests.now c.args.from c.args.n (shown_with [] c.args.positions.now) ≡ [] =
    kept-shown c.args.digests.now [] c.args.from c.args.n c.args.positions.now c.if-n-eq1.true some c.requires.rising
    in ap (λ (xs : List (List ℕ)). drop (length xs) (g.S.PartialTree.digests c.args.shown.now)) (sym e)

-- what the left part requires
pub begins_with_elided_part-requires : goal.begins_with_elided_part-requires
begins_with_elided_part-requires g t c κs within =
    let k : ℕ = c.cut_of-k.result
    in let some : 1 ≤ k = omega (arith, c.cut_of-k.ensures.below, c.cut_of-k.ensures.largest)
    in let rises : RisesWithin c.args.from (c.args.from + k) c.split_at.result.0.now =
    rw c.split_at.ensures.front (front-rises c.args.from (c.args.from + c.args.n) (c.args.from + k) c.count_below.result c.args.positions.now c.count_below.ensures.value c.requires.rising)
    in let part = left-nodes c.args.digests.now k c.args.n c.cut_of-k.ensures.below (c.requires.nodes, c.requires.sized)
    in (omega arith, (within, (some, (part.0, (part.1, (omega arith, (rises, (c.requires.theirs, omega arith))))))))

pub returns-then-not-begins_with_elided_part-clause-exact : goal.returns-then-not-begins_with_elided_part-clause-exact
returns-then-not-begins_with_elided_part-clause-exact g t c =
    let both = kept-parts c.args.digests.now [] c.args.from c.cut_of-k.result c.args.n c.count_below.result c.args.positions.now _ _ c.count_below.ensures.value
    c.split_at.ensures.front c.split_at.ensures.back c.cut_of-k.ensures.power c.cut_of-k.ensures.below c.cut_of-k.ensures.largest
    (sym c.if-is_empty.ensures) c.requires.rising
    in (
      no,
      λ is. sym c.if-not-begins_with_elided_part.true ∙ c.begins_with_elided_part.ensures.exact.1 (begins-parts _ _ _ _ both is).0,
    )

-- what the right part requires
pub begins_with_elided_part-requires-2 : goal.begins_with_elided_part-requires-2
begins_with_elided_part-requires-2 g t c κs within =
    let k : ℕ = c.cut_of-k.result
    in let ends : c.args.from + k + (c.args.n - k) ≡ c.args.from + c.args.n = omega (arith, c.cut_of-k.ensures.below)
    in let rises : RisesWithin (c.args.from + k) (c.args.from + k + (c.args.n - k)) c.split_at.result.1.now =
    rw (ends, c.split_at.ensures.back) (back-rises c.args.from (c.args.from + c.args.n) (c.args.from + k) c.count_below.result c.args.positions.now c.count_below.ensures.value c.requires.rising)
    in let part = right-nodes c.args.digests.now k c.args.n c.cut_of-k.ensures.below (c.requires.nodes, c.requires.sized)
    in let theirs : All HasSize (g.S.PartialTree.digests c.begins_with_elided_part.new.shown) =
    subst (All HasSize) (sym (c.begins_with_elided_part.ensures.left c.if-not-begins_with_elided_part.false))
    (All-drop HasSize _ (g.S.PartialTree.digests c.args.shown.now) c.requires.theirs)
    in let space : c.begins_with_elided_part.new.steps + (c.args.n - k) < 2 ^ 64 = omega (arith, c.begins_with_elided_part.ensures.cost, c.cut_of-k.ensures.below)
    in (omega arith, (within, (omega arith, (part.0, (part.1, (omega arith, (rises, (theirs, space))))))))

-- two parts
pub returns-clause-exact : goal.returns-clause-exact
returns-clause-exact g t c =
    let both = kept-parts c.args.digests.now [] c.args.from c.cut_of-k.result c.args.n c.count_below.result c.args.positions.now _ _ c.count_below.ensures.value
    c.split_at.ensures.front c.split_at.ensures.back c.cut_of-k.ensures.power c.cut_of-k.ensures.below c.cut_of-k.ensures.largest
    (sym c.if-is_empty.ensures) c.requires.rising
    in let begins = c.if-not-begins_with_elided_part.false
    in let same = parts-begin _ _ _ (g.S.PartialTree.digests c.args.shown.now) both _ (c.begins_with_elided_part.ensures.left begins) (c.begins_with_elided_part.ensures.exact.0 begins)
    in (
      λ holds. same.0 (c.begins_with_elided_part-2.ensures.exact.0 holds),
      λ is. c.begins_with_elided_part-2.ensures.exact.1 (same.1 is),
    )

pub returns-clause-left : goal.returns-clause-left
returns-clause-left g t c holds =
    let both = kept-parts c.args.digests.now [] c.args.from c.cut_of-k.result c.args.n c.count_below.result c.args.positions.now _ _ c.count_below.ensures.value
    c.split_at.ensures.front c.split_at.ensures.back c.cut_of-k.ensures.power c.cut_of-k.ensures.below c.cut_of-k.ensures.largest
    (sym c.if-is_empty.ensures) c.requires.rising
    in drop-parts _ _ _ (g.S.PartialTree.digests c.args.shown.now) both _ _
    (c.begins_with_elided_part.ensures.left c.if-not-begins_with_elided_part.false) (c.begins_with_elided_part-2.ensures.left holds)

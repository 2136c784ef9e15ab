use Rattle.std.proofs.Common.{◌≡◌, ◌+◌, ◌/◌, ◌≤◌, ℕ, List, [], ◌∷◌, length, arith, sym, refl, ◌∙◌, ap, true, false, not, Bool}
use Rattle.std.specs.List.{slice_get}
use Rattle.std.specs.Option.{is_some}
use Rattle.ats_tree.specs.Shown.{Shown, first_position}
use Rattle.ats_tree.specs.Kept.{kept_digests}
use Rattle.ats_tree.proofs.Positions.{rises-increasing}
use Rattle.ats_tree.proofs.KeptLemmas.{kept-number, length-kept}
use Rattle.ats_tree.proofs.OwnParts.{no, own-whole, whole-own, whole-leaves, whole-digests}
use Rattle.ats_tree.proofs.keeping.Nodes.has_shown.Goals as goal

is-true : (b : Bool) → not b ≡ false → b ≡ true
is-true true is = refl
is-true false is = absurd (cc)

no-leaf : (shown : List Shown) → is_some (first_position shown) ≡ false → shown ≡ []
no-leaf [] none = refl
no-leaf (s ∷ rest) none = absurd (cc)

no-digest : (ds : List (List ℕ)) → is_some (slice_get ds 0) ≡ false → ds ≡ []
no-digest [] none = refl
no-digest (d ∷ ds) none = absurd (cc)

-- another number of leaves
pub returns-then-len-n-clause-exact : goal.returns-then-len-n-clause-exact
returns-then-len-n-clause-exact g c =
    let H : List ℕ → List ℕ = g.H.HashKind.hash
    in let leaves : List (List ℕ) = g.L.Leaves.items c.args.leaves.now
    in let size : c.len.result ≡ length (kept_digests H leaves) = c.len.ensures ∙ ap length c.requires.kept
    in (
      no,
      λ is.
          let some : 1 ≤ length leaves = omega (arith, is.some, is.number)
          in absurd (c.if-len-n.true (omega (arith, size, length-kept H leaves some, is.number))),
    )

pub begins_with_part-requires-clause-within : goal.begins_with_part-requires-clause-within
begins_with_part-requires-clause-within g c =
    let number : c.len.result / 2 + 1 ≡ length (g.L.Leaves.items c.args.leaves.now) =
    kept-number g.H.HashKind.hash _ c.self.inside.digests.items _ _ c.self.invariant.odd c.self.view_is c.len.ensures c.requires.kept
    in omega (arith, number, c.if-len-n.false)

pub begins_with_part-requires-clause-rising : goal.begins_with_part-requires-clause-rising
begins_with_part-requires-clause-rising g c = rises-increasing _ c.position-facts.ensures.rising

-- other leaves or digests
pub returns-then-not-begins_with_part-clause-exact : goal.returns-then-not-begins_with_part-clause-exact
returns-then-not-begins_with_part-clause-exact g c =
    let leaves : List (List ℕ) = g.L.Leaves.items c.args.leaves.now
    in let kept : c.as_slice.result.now ≡ kept_digests g.H.HashKind.hash leaves = c.as_slice.ensures.value ∙ c.self.view_is ∙ c.requires.kept
    in let counted = kept-number g.H.HashKind.hash leaves c.self.inside.digests.items _ _ c.self.invariant.odd c.self.view_is c.len.ensures c.requires.kept
    in (
      no,
      λ is. sym c.if-not-begins_with_part.true
          ∙ c.begins_with_part.ensures.exact.1 (whole-own _ leaves _ c.args.n _ _ kept _ counted c.if-len-n.false is),
    )

-- no leaf is left, and maybe a digest
pub returns-then-is_none-clause-exact : goal.returns-then-is_none-clause-exact
returns-then-is_none-clause-exact g c =
    let leaves : List (List ℕ) = g.L.Leaves.items c.args.leaves.now
    in let shown : List Shown = g.S.PartialTree.shown c.args.shown.now
    in let digests : List (List ℕ) = g.S.PartialTree.digests c.args.shown.now
    in let kept : c.as_slice.result.now ≡ kept_digests g.H.HashKind.hash leaves = c.as_slice.ensures.value ∙ c.self.view_is ∙ c.requires.kept
    in let counted = kept-number g.H.HashKind.hash leaves c.self.inside.digests.items _ _ c.self.invariant.odd c.self.view_is c.len.ensures c.requires.kept
    in let begins = c.if-not-begins_with_part.false
    in let over_is = c.begins_with_part.ensures.digests_left begins
    in let none = no-leaf _ (ap is_some (sym c.position.ensures.first) ∙ c.is_none.ensures ∙ ap not c.if-is_none.true)
    in (
      λ holds.
          let empty = no-digest _ (ap is_some (sym c.take_digest.ensures.first) ∙ c.is_none-then-is_none.ensures ∙ ap not holds)
          in own-whole _ leaves _ c.args.n shown digests kept _ counted c.if-len-n.false
          (c.begins_with_part.ensures.exact.0 begins) (sym (c.begins_with_part.ensures.leaves_left begins) ∙ none) (sym over_is ∙ empty),
      λ is.
          let empty = over_is ∙ whole-digests _ leaves _ c.args.n shown digests kept _ counted c.if-len-n.false is
          in is-true _ (sym c.is_none-then-is_none.ensures ∙ ap is_some c.take_digest.ensures.first ∙ ap (λ (ds : List (List ℕ)). is_some (slice_get ds 0)) empty),
    )

-- a leaf is left
pub returns-else-is_none-clause-exact : goal.returns-else-is_none-clause-exact
returns-else-is_none-clause-exact g c =
    let leaves : List (List ℕ) = g.L.Leaves.items c.args.leaves.now
    in let shown : List Shown = g.S.PartialTree.shown c.args.shown.now
    in let digests : List (List ℕ) = g.S.PartialTree.digests c.args.shown.now
    in let kept : c.as_slice.result.now ≡ kept_digests g.H.HashKind.hash leaves = c.as_slice.ensures.value ∙ c.self.view_is ∙ c.requires.kept
    in let counted = kept-number g.H.HashKind.hash leaves c.self.inside.digests.items _ _ c.self.invariant.odd c.self.view_is c.len.ensures c.requires.kept
    in (
      λ holds. no (sym c.if-is_none.false ∙ holds),
      λ is.
          let none = c.begins_with_part.ensures.leaves_left c.if-not-begins_with_part.false ∙ whole-leaves _ leaves _ c.args.n shown digests kept _ counted c.if-len-n.false is
          in is-true _ (sym c.is_none.ensures ∙ ap is_some c.position.ensures.first ∙ ap (λ (ss : List Shown). is_some (first_position ss)) none),
    )

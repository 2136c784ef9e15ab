use Rattle.std.proofs.Common.{◌≡◌, ◌+◌, ◌-◌, ◌^◌, ◌<◌, ◌≤◌, ℕ, List, [], ◌∷◌, length, get_or, arith, sym, ◌∙◌, ap, Some, None}
use Rattle.std.specs.List.{All, slice_get}
use Rattle.std.proofs.lemmas.Slice.Eq.{bytes_eq-Decides}
use Rattle.ats_tree.specs.Shown.{Shown, first_leaf}
use Rattle.ats_tree.specs.Part.{RisesFrom, shown_from}
use Rattle.ats_tree.proofs.Clashes.{first-fits}
use Rattle.ats_tree.proofs.Parts.{IsCut, is_cut, rises_none, rises_past}
use Rattle.ats_tree.proofs.ShownPlaces.{All-from, rises-from, from-all}
use Rattle.ats_tree.proofs.KeptElided.{left-nodes, right-nodes}
use Rattle.ats_tree.proofs.OwnParts.{no, one-own, one-left, one-digests, none-own, own-none, none-digests, own-left, own-parts, left-after, digests-after}
use Rattle.ats_tree.proofs.comparing.+begins_with_part.Goals as goal
use Rattle.ats_tree.proofs.comparing.+begins_with_part.Goals.{in_default-via-in-Some+else-at-from, in_default-via-in_default}

-- one leaf, which is shown
pub take_leaf-requires-clause-short : goal.take_leaf-requires-clause-short
take_leaf-requires-clause-short g t c = first-fits (λ (leaf : List ℕ). length leaf ≤ 127) _ _ (sym c.in-Some.ensures.first) c.requires.short

pub returns-then-n-eq1-clause-exact : goal.returns-then-n-eq1-clause-exact
returns-then-n-eq1-clause-exact g t c =
    let leaves : List (List ℕ) = g.L.Leaves.items c.args.leaves.now
    in let tried = bytes_eq-Decides c.bytes.result.now c.bytes-then-n-eq1.result.now
    in let theirs : c.bytes.result.now ≡ 0 ∷ first_leaf (g.S.PartialTree.shown c.args.shown.now) = c.bytes.ensures.value ∙ c.take_leaf.ensures.string
    in let ours : c.bytes-then-n-eq1.result.now ≡ 0 ∷ get_or leaves c.args.from [] = c.bytes-then-n-eq1.ensures.value ∙ c.leaf_string.ensures
    in let own = one-own leaves c.args.digests.now c.args.from c.args.n c.in-Some.at (g.S.PartialTree.shown c.args.shown.now) (g.S.PartialTree.digests c.args.shown.now)
    c.if-n-eq1.true c.requires.rising (sym c.in-Some.ensures.first) c.if-at-from.true c.requires.within
    in (
      λ holds. own.0 (sym theirs ∙ tried.0 (sym c.eq.ensures ∙ holds) ∙ ours),
      λ is. c.eq.ensures ∙ tried.1 (theirs ∙ own.1 is ∙ sym ours),
    )

pub returns-then-n-eq1-clause-leaves_left : goal.returns-then-n-eq1-clause-leaves_left
returns-then-n-eq1-clause-leaves_left g t c holds =
    c.take_leaf.ensures.passed
    ∙ one-left (g.L.Leaves.items c.args.leaves.now) c.args.digests.now c.args.from c.args.n c.in-Some.at (g.S.PartialTree.shown c.args.shown.now) (g.S.PartialTree.digests c.args.shown.now)
    c.if-n-eq1.true c.requires.rising (sym c.in-Some.ensures.first) c.if-at-from.true c.requires.within

pub returns-then-n-eq1-clause-digests_left : goal.returns-then-n-eq1-clause-digests_left
returns-then-n-eq1-clause-digests_left g t c holds =
    c.take_leaf.ensures.others
    ∙ one-digests (g.L.Leaves.items c.args.leaves.now) c.args.digests.now c.args.from c.args.n c.in-Some.at (g.S.PartialTree.shown c.args.shown.now) (g.S.PartialTree.digests c.args.shown.now)
    c.if-n-eq1.true c.requires.rising (sym c.in-Some.ensures.first) c.if-at-from.true c.requires.within

-- what the left part asks for
pub begins_with_part-requires : goal.begins_with_part-requires
begins_with_part-requires g t c κs within =
    let some : 1 ≤ c.cut_of-k.result = omega (arith, c.cut_of-k.ensures.below, c.cut_of-k.ensures.largest)
    in let part = left-nodes c.args.digests.now c.cut_of-k.result c.args.n c.cut_of-k.ensures.below (c.requires.nodes, c.requires.sized)
    in (omega arith, (within.0, (within.1, (some, (part.0, (part.1, (omega arith, (omega arith, (c.requires.rising, (c.requires.short, omega arith))))))))))

pub returns-then-not-begins_with_part-clause-exact : goal.returns-then-not-begins_with_part-clause-exact
returns-then-not-begins_with_part-clause-exact g t c =
    let cut : IsCut c.args.from c.cut_of-k.result c.args.n (g.S.PartialTree.shown c.args.shown.now) =
    is_cut _ _ _ c.in-Some.at _ c.cut_of-k.ensures.power c.cut_of-k.ensures.below c.cut_of-k.ensures.largest
    c.requires.rising (sym c.in-Some.ensures.first) c.if-at-from.true
    in (
      no,
      λ is. sym c.if-not-begins_with_part.true
          ∙ c.begins_with_part.ensures.exact.1 (own-left _ _ _ _ _ _ _ cut c.cut_of-k.ensures.below c.cut_of-k.ensures.largest is),
    )

-- what the right part asks for
pub begins_with_part-requires-in-Some : goal.begins_with_part-requires-in-Some
begins_with_part-requires-in-Some g t c κs within =
    let k : ℕ = c.cut_of-k.result
    in let left : g.S.PartialTree.shown c.begins_with_part.new.shown ≡ shown_from (c.args.from + k) (g.S.PartialTree.shown c.args.shown.now) =
    c.begins_with_part.ensures.leaves_left c.if-not-begins_with_part.false
    in let part = right-nodes c.args.digests.now k c.args.n c.cut_of-k.ensures.below (c.requires.nodes, c.requires.sized)
    in let rises : RisesFrom (c.args.from + k) (g.S.PartialTree.shown c.begins_with_part.new.shown) =
    rw left (rises-from c.args.from (c.args.from + k) _ c.requires.rising)
    in let short : All (λ (s : Shown). length s.1 ≤ 127) (g.S.PartialTree.shown c.begins_with_part.new.shown) =
    rw left (All-from (λ (s : Shown). length s.1 ≤ 127) (c.args.from + k) _ c.requires.short)
    in let space : c.begins_with_part.new.steps + (c.args.n - k) < 2 ^ 64 = omega (arith, c.begins_with_part.ensures.cost, c.cut_of-k.ensures.below)
    in (omega arith, (within.0, (within.1, (omega arith, (part.0, (part.1, (omega arith, (omega arith, (rises, (short, space))))))))))

pub returns-else-not-begins_with_part-clause-exact : goal.returns-else-not-begins_with_part-clause-exact
returns-else-not-begins_with_part-clause-exact g t c =
    let cut : IsCut c.args.from c.cut_of-k.result c.args.n (g.S.PartialTree.shown c.args.shown.now) =
    is_cut _ _ _ c.in-Some.at _ c.cut_of-k.ensures.power c.cut_of-k.ensures.below c.cut_of-k.ensures.largest
    c.requires.rising (sym c.in-Some.ensures.first) c.if-at-from.true
    in let begins = c.if-not-begins_with_part.false
    in let own = own-parts (g.L.Leaves.items c.args.leaves.now) c.args.digests.now c.args.from c.args.n _ (g.S.PartialTree.digests c.args.shown.now) c.cut_of-k.result cut
    c.cut_of-k.ensures.below c.cut_of-k.ensures.largest _ _ (c.begins_with_part.ensures.leaves_left begins) (c.begins_with_part.ensures.digests_left begins)
    (c.begins_with_part.ensures.exact.0 begins)
    in (
      λ holds. own.0 (c.begins_with_part-in-Some.ensures.exact.0 holds),
      λ is. c.begins_with_part-in-Some.ensures.exact.1 (own.1 is),
    )

pub returns-else-not-begins_with_part-clause-leaves_left : goal.returns-else-not-begins_with_part-clause-leaves_left
returns-else-not-begins_with_part-clause-leaves_left g t c holds =
    left-after c.args.from c.cut_of-k.result c.args.n (g.S.PartialTree.shown c.args.shown.now) _ _ c.cut_of-k.ensures.below
    (c.begins_with_part.ensures.leaves_left c.if-not-begins_with_part.false) (c.begins_with_part-in-Some.ensures.leaves_left holds)

pub returns-else-not-begins_with_part-clause-digests_left : goal.returns-else-not-begins_with_part-clause-digests_left
returns-else-not-begins_with_part-clause-digests_left g t c holds =
    let cut : IsCut c.args.from c.cut_of-k.result c.args.n (g.S.PartialTree.shown c.args.shown.now) =
    is_cut _ _ _ c.in-Some.at _ c.cut_of-k.ensures.power c.cut_of-k.ensures.below c.cut_of-k.ensures.largest
    c.requires.rising (sym c.in-Some.ensures.first) c.if-at-from.true
    in let begins = c.if-not-begins_with_part.false
    in digests-after (g.L.Leaves.items c.args.leaves.now) c.args.digests.now c.args.from c.args.n _ (g.S.PartialTree.digests c.args.shown.now) c.cut_of-k.result cut
    c.cut_of-k.ensures.below c.cut_of-k.ensures.largest _ _ _ (c.begins_with_part.ensures.leaves_left begins) (c.begins_with_part.ensures.digests_left begins)
    (c.begins_with_part-in-Some.ensures.digests_left holds)

-- no leaf among the places
pub returns-in-Some-take_digest-clause-exact : goal.returns-in-Some-take_digest-clause-exact
returns-in-Some-take_digest-clause-exact g t c =
    let shown : List Shown = g.S.PartialTree.shown c.args.shown.now
    in let leaves : List (List ℕ) = g.L.Leaves.items c.args.leaves.now
    in let digests : List (List ℕ) = g.S.PartialTree.digests c.args.shown.now
    in let rises : RisesFrom (c.args.from + c.args.n) shown =
    elim c.in_default.branch [
      | in_default-via-in-Some+else-at-from w ↦
          rises_past _ _ w.in-Some.at _ c.requires.rising (sym w.in-Some.ensures.first) w.if-at-from.false
      | in_default-via-in_default w ↦ rises_none _ _ (sym w.in_default.ensures.first)
    ]
    in let theirs : List ℕ = c.in-Some-take_digest.theirs
    in let tried = bytes_eq-Decides theirs (get_or c.args.digests.now 0 [])
    in (
      λ holds. none-own leaves c.args.digests.now c.args.from c.args.n shown digests c.requires.some rises
          (sym c.in-Some-take_digest.ensures.first ∙ ap Some (tried.0 (sym c.eq-in-Some-take_digest.ensures ∙ holds))),
      λ is.
          let found : Some theirs ≡ Some (get_or c.args.digests.now 0 []) =
          c.in-Some-take_digest.ensures.first ∙ own-none leaves c.args.digests.now c.args.from c.args.n shown digests c.requires.some rises is
          in let same : theirs ≡ get_or c.args.digests.now 0 [] = cc
          in c.eq-in-Some-take_digest.ensures ∙ tried.1 same,
    )

pub returns-in-Some-take_digest-clause-leaves_left : goal.returns-in-Some-take_digest-clause-leaves_left
returns-in-Some-take_digest-clause-leaves_left g t c holds =
    let shown : List Shown = g.S.PartialTree.shown c.args.shown.now
    in let leaves : List (List ℕ) = g.L.Leaves.items c.args.leaves.now
    in let digests : List (List ℕ) = g.S.PartialTree.digests c.args.shown.now
    in let rises : RisesFrom (c.args.from + c.args.n) shown =
    elim c.in_default.branch [
      | in_default-via-in-Some+else-at-from w ↦
          rises_past _ _ w.in-Some.at _ c.requires.rising (sym w.in-Some.ensures.first) w.if-at-from.false
      | in_default-via-in_default w ↦ rises_none _ _ (sym w.in_default.ensures.first)
    ]
    in c.take_digest.ensures.others ∙ sym (from-all (c.args.from + c.args.n) shown rises)

pub returns-in-Some-take_digest-clause-digests_left : goal.returns-in-Some-take_digest-clause-digests_left
returns-in-Some-take_digest-clause-digests_left g t c holds =
    let shown : List Shown = g.S.PartialTree.shown c.args.shown.now
    in let leaves : List (List ℕ) = g.L.Leaves.items c.args.leaves.now
    in let digests : List (List ℕ) = g.S.PartialTree.digests c.args.shown.now
    in let rises : RisesFrom (c.args.from + c.args.n) shown =
    elim c.in_default.branch [
      | in_default-via-in-Some+else-at-from w ↦
          rises_past _ _ w.in-Some.at _ c.requires.rising (sym w.in-Some.ensures.first) w.if-at-from.false
      | in_default-via-in_default w ↦ rises_none _ _ (sym w.in_default.ensures.first)
    ]
    in c.take_digest.ensures.passed
    ∙ none-digests leaves c.args.digests.now c.args.from c.args.n shown digests c.requires.some rises

pub returns-in-None-clause-exact : goal.returns-in-None-clause-exact
returns-in-None-clause-exact g t c =
    let shown : List Shown = g.S.PartialTree.shown c.args.shown.now
    in let leaves : List (List ℕ) = g.L.Leaves.items c.args.leaves.now
    in let digests : List (List ℕ) = g.S.PartialTree.digests c.args.shown.now
    in let rises : RisesFrom (c.args.from + c.args.n) shown =
    elim c.in_default.branch [
      | in_default-via-in-Some+else-at-from w ↦
          rises_past _ _ w.in-Some.at _ c.requires.rising (sym w.in-Some.ensures.first) w.if-at-from.false
      | in_default-via-in_default w ↦ rises_none _ _ (sym w.in_default.ensures.first)
    ]
    in (
      no,
      λ is.
          let none : None ≡ slice_get digests 0 = c.in-None.ensures.first
          in let found : None ≡ Some (get_or c.args.digests.now 0 []) =
          none ∙ own-none leaves c.args.digests.now c.args.from c.args.n shown digests c.requires.some rises is
          in absurd (cc),
    )

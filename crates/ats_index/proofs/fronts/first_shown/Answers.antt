use Rattle.std.proofs.Common.{◌≡◌, ◌+◌, ◌≤◌, ℕ, List, [], ◌∷◌, ◌++◌, length, map, drop, get_or, true, false, not, Bool, sym, ap, ap₂, ◌∙◌, subst, arith}
use Rattle.std.specs.List.{All}
use Rattle.std.specs.Str.{bytes_eq}
use Rattle.std.proofs.lemmas.List.{length-map}
use Rattle.std.proofs.lemmas.List.Elements.{All-drop}
use Rattle.std.proofs.lemmas.Slice.Eq.{bytes_eq-Decides}
use Rattle.ats_tree.specs.Shown.{Shown, first_leaf}
use Rattle.ats_lists.specs.Formats.{first_leaves}
use Rattle.ats_lists.specs.Leaf.{leaf_bytes}
use Rattle.ats_index.proofs.FrontLemmas.{shown_leaf, first_more, first_next, shown_some, first_short, ended, too_many}
use Rattle.ats_index.proofs.fronts.first_shown.Goals as goal

pub take_leaf-requires-clause-short : goal.take_leaf-requires-clause-short
take_leaf-requires-clause-short g c = first_short (g.S.PartialTree.shown c.loop-i.shown) c.loop-i.invariant.short

pub take_leaf-requires-clause-space : goal.take_leaf-requires-clause-space
take_leaf-requires-clause-space g c = omega (arith, c.loop-i.invariant.cost, c.requires.space, c.requires.few, c.loop-i-test.true, c.len-i-end.ensures)

-- another leaf
pub returns-then-ne-clause-none : goal.returns-then-ne-clause-none
returns-then-ne-clause-none g c fits all =
    let left : List Shown = g.S.PartialTree.shown c.loop-i.shown in
    let is = shown_some left c.in-Some.at (sym c.in-Some.ensures.first) in
    let own = first_next c.args.entries.now (g.S.PartialTree.shown c.args.shown.now) (drop 1 left) (c.in-Some.at, first_leaf left) c.loop-i.i
    (c.loop-i.invariant.same ∙ ap (λ (xs : List Shown). first_leaves c.args.entries.now c.loop-i.i ++ xs) is) all in
    let leaf : first_leaf left ≡ get_or (map leaf_bytes c.args.entries.now) c.loop-i.i [] = ap (λ (s : Shown). s.1) own in
    let same : c.bytes.result.now ≡ c.bytes-in-Some.result.now =
    c.bytes.ensures.value ∙ c.take_leaf.ensures.string ∙ ap (λ (d : List ℕ). 0 ∷ d) leaf ∙ sym c.leaf_string.ensures ∙ sym c.bytes-in-Some.ensures.value in
    let equal : bytes_eq c.bytes.result.now c.bytes-in-Some.result.now ≡ true = (bytes_eq-Decides c.bytes.result.now c.bytes-in-Some.result.now).1 same in
    let clash : true ≡ false = sym c.if-ne.true ∙ c.ne.ensures ∙ ap not equal in
    absurd (cc)

-- a leaf elsewhere
pub returns-in-Some-2-clause-none : goal.returns-in-Some-2-clause-none
returns-in-Some-2-clause-none g c fits all =
    let left : List Shown = g.S.PartialTree.shown c.loop-i.shown in
    let is = shown_some left c.in-Some.at (sym c.in-Some.ensures.first) in
    let own = first_next c.args.entries.now (g.S.PartialTree.shown c.args.shown.now) (drop 1 left) (c.in-Some.at, first_leaf left) c.loop-i.i
    (c.loop-i.invariant.same ∙ ap (λ (xs : List Shown). first_leaves c.args.entries.now c.loop-i.i ++ xs) is) all in
    let here : c.in-Some.at ≡ c.loop-i.i = ap (λ (s : Shown). s.0) own in
    c.if-at-i.false here

-- no leaf is left
pub returns-in-None-clause-count : goal.returns-in-None-clause-count
returns-in-None-clause-count g c =
    sym (ended c.args.entries.now (g.S.PartialTree.shown c.args.shown.now) (g.S.PartialTree.shown c.loop-i.shown) c.loop-i.i c.loop-i.invariant.same (sym c.in-None.ensures.first))

pub returns-in-None-position-clause-count : goal.returns-in-None-position-clause-count
returns-in-None-position-clause-count g c =
    let size = ended c.args.entries.now (g.S.PartialTree.shown c.args.shown.now) (g.S.PartialTree.shown c.loop-i.shown) c.loop-i.i c.loop-i.invariant.same (sym c.in-None-position.ensures.first) in
    omega (arith, size, c.loop-i-test.false, c.len-i-end.ensures, c.len.ensures, c.loop-i.auto.i-end)

-- the next leaf
pub loop-i-preserved : goal.loop-i-preserved
loop-i-preserved g c =
    let left : List Shown = g.S.PartialTree.shown c.loop-i.shown in
    let is = shown_some left c.in-Some.at (sym c.in-Some.ensures.first) in
    let equal : bytes_eq c.bytes.result.now c.bytes-in-Some.result.now ≡ true = unequal _ (sym c.ne.ensures ∙ c.if-ne.false) in
    let same : c.bytes.result.now ≡ c.bytes-in-Some.result.now = (bytes_eq-Decides c.bytes.result.now c.bytes-in-Some.result.now).0 equal in
    let strings : 0 ∷ first_leaf left ≡ 0 ∷ get_or (map leaf_bytes c.args.entries.now) c.loop-i.i [] =
    sym c.take_leaf.ensures.string ∙ sym c.bytes.ensures.value ∙ same ∙ c.bytes-in-Some.ensures.value ∙ c.leaf_string.ensures in
    let own : (c.in-Some.at, first_leaf left) ≡ shown_leaf c.args.entries.now c.loop-i.i =
    ap₂ (λ (p : ℕ) (d : List ℕ). (p, d)) c.if-at-i.true (ap (drop 1) strings) in
    record {
      same = first_more c.args.entries.now (g.S.PartialTree.shown c.args.shown.now) (drop 1 left) (c.in-Some.at, first_leaf left) c.loop-i.i
          (c.loop-i.invariant.same ∙ ap (λ (xs : List Shown). first_leaves c.args.entries.now c.loop-i.i ++ xs) is) own
          ∙ ap (λ (xs : List Shown). first_leaves c.args.entries.now (c.loop-i.i + 1) ++ xs) (sym c.take_leaf.ensures.passed);
      digests = c.take_leaf.ensures.others ∙ c.loop-i.invariant.digests;
      short = subst (All (λ (s : Shown). length s.1 ≤ 127)) (sym c.take_leaf.ensures.passed) (All-drop (λ (s : Shown). length s.1 ≤ 127) 1 left c.loop-i.invariant.short);
      cost = omega (arith, c.take_leaf.ensures.cost, c.loop-i.invariant.cost);
    }
  where
    unequal : (b : Bool) → not b ≡ false → b ≡ true
    unequal true is = cc
    unequal false is = absurd (cc)

-- more leaves than entries
pub returns-in-Some-position-clause-none : goal.returns-in-Some-position-clause-none
returns-in-Some-position-clause-none g c fits all =
    let size = too_many c.args.entries.now (g.S.PartialTree.shown c.args.shown.now) (g.S.PartialTree.shown c.loop-i.shown) c.loop-i.i c.in-Some-position.field-0 c.loop-i.invariant.same (sym c.in-Some-position.ensures.first) in
    absurd (omega (arith, size, fits, c.loop-i-test.false, c.len-i-end.ensures, length-map c.args.entries.now leaf_bytes))

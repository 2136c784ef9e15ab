use Rattle.std.proofs.Common.{◌*◌, ◌-◌, ◌^◌, ◌<◌, ◌≤◌, length, rules, arith, sym, ◌+◌}
use Rattle.ats_tree.specs.Shown.{Shown}
use Rattle.std.specs.List.{All}
use Rattle.ats_tree.specs.Tree.{tree_of}
use Rattle.ats_tree.specs.Shown.{places}
use Rattle.ats_tree.specs.Rebuild.{need}
use Rattle.ats_tree.specs.Part.{RisesFrom}
use Rattle.ats_tree.proofs.Parts.{IsCut, is_cut, need-cut, node-part, leaf-part, bare-part, bare-short, rises_none, rises_past}
use Rattle.ats_tree.proofs.ShownPlaces.{All-from, rises-from}
use Rattle.ats_tree.proofs.Clashes.{first_of_two, path-left, path-right, left-placed, right-placed, turns-fit, clash-node, clash-leaf, clash-bare, first-fits, right-enough}
use Rattle.ats_tree.proofs.clashing.+part.Goals as goal
use Rattle.ats_tree.proofs.clashing.+part.Goals.{in_default-via-in-Some+else-at-from, in_default-via-in_default}

-- one leaf
pub first_string-theirs-requires-clause-fits : goal.first_string-theirs-requires-clause-fits
first_string-theirs-requires-clause-fits g t c = first-fits g.S.Preimage.fits _ _ (sym c.in-Some.ensures.first) c.requires.fit

pub returns-then-n-eq1-clause-whole : goal.returns-then-n-eq1-clause-whole
returns-then-n-eq1-clause-whole g t c =
    rw (c.take_leaf-digest.ensures.value, c.take_leaf-digest.ensures.passed, c.take_leaf-digest.ensures.same)
    (leaf-part _ _ _ c.in-Some.at _ _ c.if-n-eq1.true c.requires.rising (sym c.in-Some.ensures.first) c.if-at-from.true)

pub returns-then-n-eq1-clause-clash : goal.returns-then-n-eq1-clause-clash
returns-then-n-eq1-clause-clash g t c =
    clash-leaf g.H.HashKind.hash (g.O.OwnNodes.ours c.args.own.now) _ c.args.from c.args.n c.in-Some.at (g.F.Remaining.leaves c.args.remaining.now) (g.F.Remaining.others c.args.remaining.now) _
    c.if-n-eq1.true c.requires.rising (sym c.in-Some.ensures.first) c.if-at-from.true
    (rw c.first_string-theirs.ensures at c.clash_or-clash.ensures.clash)

-- the numbers of the nodes of both parts
pub overflow_mul-turns : goal.overflow_mul-turns
overflow_mul-turns g t c =
    omega (arith, turns-fit c.args.n c.cut_of-k.result c.args.depth c.args.turns c.requires.placed c.cut_of-k.ensures.power c.cut_of-k.ensures.below c.cut_of-k.ensures.largest)

pub overflow_mul-turns-else-n-eq1 : goal.overflow_mul-turns-else-n-eq1
overflow_mul-turns-else-n-eq1 g t c =
    omega (arith, turns-fit c.args.n c.cut_of-k.result c.args.depth c.args.turns c.requires.placed c.cut_of-k.ensures.power c.cut_of-k.ensures.below c.cut_of-k.ensures.largest)

pub overflow_add-turns : goal.overflow_add-turns
overflow_add-turns g t c =
    omega (arith, turns-fit c.args.n c.cut_of-k.result c.args.depth c.args.turns c.requires.placed c.cut_of-k.ensures.power c.cut_of-k.ensures.below c.cut_of-k.ensures.largest)

-- what the parts require
pub part-left-requires : goal.part-left-requires
part-left-requires g t c κs within =
    let cut : IsCut c.args.from c.cut_of-k.result c.args.n (g.F.Remaining.leaves c.args.remaining.now) =
    is_cut _ _ _ c.in-Some.at _ c.cut_of-k.ensures.power c.cut_of-k.ensures.below c.cut_of-k.ensures.largest
    c.requires.rising (sym c.in-Some.ensures.first) c.if-at-from.true
    in let placed = left-placed c.args.n c.cut_of-k.result c.args.depth c.args.turns c.requires.placed c.cut_of-k.ensures.power c.cut_of-k.ensures.below c.cut_of-k.ensures.largest
    in let enough : need (tree_of (places c.args.from c.cut_of-k.result (g.F.Remaining.leaves c.args.remaining.now))) ≤ length (g.F.Remaining.others c.args.remaining.now) =
    omega (arith, need-cut _ _ _ _ cut, c.requires.enough)
    in let more : c.args.steps.now + 5 * c.cut_of-k.result < 2 ^ 64 = omega (arith, c.requires.space, c.cut_of-k.ensures.below)
    in (omega arith, (search rules, (search rules, (search rules, (search rules, (omega arith, (omega arith, (placed, (c.requires.rising, (enough, (c.requires.fit, more)))))))))))

pub part-right-requires : goal.part-right-requires
part-right-requires g t c κs within =
    let cut : IsCut c.args.from c.cut_of-k.result c.args.n (g.F.Remaining.leaves c.args.remaining.now) =
    is_cut _ _ _ c.in-Some.at _ c.cut_of-k.ensures.power c.cut_of-k.ensures.below c.cut_of-k.ensures.largest
    c.requires.rising (sym c.in-Some.ensures.first) c.if-at-from.true
    in let left = c.part-left.ensures.whole
    in let placed = right-placed c.args.n c.cut_of-k.result c.args.depth c.args.turns c.requires.placed c.cut_of-k.ensures.power c.cut_of-k.ensures.below c.cut_of-k.ensures.largest
    in let rises : RisesFrom (c.args.from + c.cut_of-k.result) (g.F.Remaining.leaves c.part-left.new.remaining) =
    rw left.leaves_left (rises-from c.args.from (c.args.from + c.cut_of-k.result) _ c.requires.rising)
    in let enough = right-enough g.H.HashKind.hash c.args.from c.cut_of-k.result c.args.n (g.F.Remaining.leaves c.args.remaining.now) (g.F.Remaining.leaves c.part-left.new.remaining)
    (g.F.Remaining.others c.args.remaining.now) (g.F.Remaining.others c.part-left.new.remaining) c.part-left.result.digest cut left c.requires.enough
    in let fit : All (λ (s : Shown). g.S.Preimage.fits s.1) (g.F.Remaining.leaves c.part-left.new.remaining) =
    rw left.leaves_left (All-from (λ (s : Shown). g.S.Preimage.fits s.1) (c.args.from + c.cut_of-k.result) _ c.requires.fit)
    in let more : c.part-left.new.steps + 5 * (c.args.n - c.cut_of-k.result) < 2 ^ 64 = omega (arith, c.part-left.ensures.cost, c.requires.space)
    in (omega arith, (search rules, (search rules, (search rules, (search rules, (omega arith, (omega arith, (placed, (rises, (enough, (fit, more)))))))))))

-- both parts
pub returns-else-n-eq1-clause-whole : goal.returns-else-n-eq1-clause-whole
returns-else-n-eq1-clause-whole g t c =
    let cut : IsCut c.args.from c.cut_of-k.result c.args.n (g.F.Remaining.leaves c.args.remaining.now) =
    is_cut _ _ _ c.in-Some.at _ c.cut_of-k.ensures.power c.cut_of-k.ensures.below c.cut_of-k.ensures.largest
    c.requires.rising (sym c.in-Some.ensures.first) c.if-at-from.true
    in rw c.digest2-digest.ensures.value (node-part _ _ _ _ _ _ _ _ _ _ _ _ cut c.cut_of-k.ensures.below c.part-left.ensures.whole c.part-right.ensures.whole)

pub returns-else-n-eq1-clause-clash : goal.returns-else-n-eq1-clause-clash
returns-else-n-eq1-clause-clash g t c =
    let cut : IsCut c.args.from c.cut_of-k.result c.args.n (g.F.Remaining.leaves c.args.remaining.now) =
    is_cut _ _ _ c.in-Some.at _ c.cut_of-k.ensures.power c.cut_of-k.ensures.below c.cut_of-k.ensures.largest
    c.requires.rising (sym c.in-Some.ensures.first) c.if-at-from.true
    in clash-node g.H.HashKind.hash (g.O.OwnNodes.ours c.args.own.now) _ _ _ c.args.from c.cut_of-k.result c.args.n (g.F.Remaining.leaves c.args.remaining.now) (g.F.Remaining.leaves c.part-left.new.remaining)
    (g.F.Remaining.leaves c.part-right.new.remaining) (g.F.Remaining.others c.args.remaining.now) (g.F.Remaining.others c.part-left.new.remaining) (g.F.Remaining.others c.part-right.new.remaining)
    c.part-left.result.digest c.part-right.result.digest _ _ _ cut c.part-left.ensures.whole c.part-right.ensures.whole
    (path-left c.args.depth c.args.turns c.requires.placed.inside) (path-right c.args.depth c.args.turns c.requires.placed.inside)
    c.part-left.ensures.clash c.part-right.ensures.clash
    (rw (c.of_node-theirs.ensures, c.or-later.ensures, first_of_two) at c.clash_or-clash-else-n-eq1.ensures.clash)

-- no leaf among the places
pub unreachable-requires : goal.unreachable-requires
unreachable-requires g t c =
    let rises : RisesFrom (c.args.from + c.args.n) (g.F.Remaining.leaves c.args.remaining.now) =
    elim c.in_default.branch [
      | in_default-via-in-Some+else-at-from w ↦
          rises_past _ _ w.in-Some.at _ c.requires.rising (sym w.in-Some.ensures.first) w.if-at-from.false
      | in_default-via-in_default w ↦ rises_none _ _ (sym w.in_default.ensures.first)
    ]
    in omega (arith, c.requires.enough, bare-short c.args.from c.args.n (g.F.Remaining.leaves c.args.remaining.now) (g.F.Remaining.others c.args.remaining.now) c.requires.some rises (sym c.in_default-take_digest.ensures.first))

pub returns-in-Some-take_digest-clause-whole : goal.returns-in-Some-take_digest-clause-whole
returns-in-Some-take_digest-clause-whole g t c =
    let rises : RisesFrom (c.args.from + c.args.n) (g.F.Remaining.leaves c.args.remaining.now) =
    elim c.in_default.branch [
      | in_default-via-in-Some+else-at-from w ↦
          rises_past _ _ w.in-Some.at _ c.requires.rising (sym w.in-Some.ensures.first) w.if-at-from.false
      | in_default-via-in_default w ↦ rises_none _ _ (sym w.in_default.ensures.first)
    ]
    in rw (c.in-Some-take_digest.ensures.same, c.in-Some-take_digest.ensures.passed)
    (bare-part _ _ _ _ _ _ c.requires.some rises (sym c.in-Some-take_digest.ensures.first))

pub returns-in-Some-take_digest-clause-clash : goal.returns-in-Some-take_digest-clause-clash
returns-in-Some-take_digest-clause-clash g t c =
    let rises : RisesFrom (c.args.from + c.args.n) (g.F.Remaining.leaves c.args.remaining.now) =
    elim c.in_default.branch [
      | in_default-via-in-Some+else-at-from w ↦
          rises_past _ _ w.in-Some.at _ c.requires.rising (sym w.in-Some.ensures.first) w.if-at-from.false
      | in_default-via-in_default w ↦ rises_none _ _ (sym w.in_default.ensures.first)
    ]
    in clash-bare g.H.HashKind.hash (g.O.OwnNodes.ours c.args.own.now) _ c.args.from c.args.n (g.F.Remaining.leaves c.args.remaining.now) (g.F.Remaining.others c.args.remaining.now) rises

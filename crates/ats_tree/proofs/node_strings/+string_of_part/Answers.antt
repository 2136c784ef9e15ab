use Rattle.std.proofs.Common.{◌≡◌, ℕ, List, length, take, drop, ◌+◌, ◌-◌, ◌*◌, arith, sym, ◌∙◌, ap, Some}
use Rattle.std.proofs.lemmas.List.{length-take, length-drop}
use Rattle.std.proofs.lemmas.List.Elements.{All-take, All-drop}
use Rattle.ats_tree.proofs.KeptLemmas.{HasSize, left-of-kept, right-of-kept, string-of-kept}
use Rattle.ats_tree.proofs.TurnLemmas.{string-leaf, string-past, string-left, string-right}
use Rattle.ats_tree.proofs.node_strings.+string_of_part.Goals as goal

-- a leaf
pub returns-then-depth-eq0 : goal.returns-then-depth-eq0
returns-then-depth-eq0 g t c =
    ap (λ (s : List ℕ). Some s) c.leaf_string.ensures
    ∙ sym (string-leaf g.H.HashKind.hash c.args.from c.args.n c.args.depth c.args.turns (g.L.Leaves.items c.args.leaves.now)
    c.if-n-eq1.true c.requires.within c.if-depth-eq0.true)

-- below a leaf
pub returns-else-depth-eq0 : goal.returns-else-depth-eq0
returns-else-depth-eq0 g t c =
    sym (string-past g.H.HashKind.hash c.args.from c.args.n c.args.depth (c.args.depth - 1) c.args.turns (g.L.Leaves.items c.args.leaves.now)
    c.if-n-eq1.true c.requires.within (omega arith))

-- a node with two parts
pub returns-then-depth-eq0-2 : goal.returns-then-depth-eq0-2
returns-then-depth-eq0-2 g t c =
    ap (λ (s : List ℕ). Some s) c.tagged.ensures
    ∙ sym (string-of-kept g.H.HashKind.hash c.args.from c.cut_of-k.result c.args.n (g.L.Leaves.items c.args.leaves.now) c.args.digests.now
    c.cut_of-k.ensures.power c.cut_of-k.ensures.below c.cut_of-k.ensures.largest c.requires.within c.requires.kept
    c.args.depth c.args.turns _ _ c.requires.nodes c.if-depth-eq0-2.true)

-- what the left part requires
pub string_of_part-requires : goal.string_of_part-requires
string_of_part-requires g t c κs lives =
    let ds : List (List ℕ) = c.args.digests.now
    in let k : ℕ = c.cut_of-k.result
    in let count : length (take (2 * k - 1) (drop 1 ds)) + 1 ≡ 2 * k =
    omega (arith, length-take (2 * k - 1) (drop 1 ds), length-drop 1 ds, c.requires.nodes, c.cut_of-k.ensures.below)
    in let kept = left-of-kept g.H.HashKind.hash c.args.from k c.args.n (g.L.Leaves.items c.args.leaves.now) ds
    c.cut_of-k.ensures.power c.cut_of-k.ensures.below c.cut_of-k.ensures.largest c.requires.within c.requires.kept
    in let sized = All-take HasSize (2 * k - 1) (drop 1 ds) (All-drop HasSize 1 ds c.requires.sized)
    in (omega arith, (lives.0, (lives.1, (count, (sized, (omega arith, (omega arith, (omega arith, kept))))))))

-- what the right part requires
pub string_of_part-requires-else-turns-further-eq0 : goal.string_of_part-requires-else-turns-further-eq0
string_of_part-requires-else-turns-further-eq0 g t c κs lives =
    let ds : List (List ℕ) = c.args.digests.now
    in let k : ℕ = c.cut_of-k.result
    in let count : length (take (length ds - 2 * k) (drop (2 * k) ds)) + 1 ≡ 2 * (c.args.n - k) =
    omega (arith, length-take (length ds - 2 * k) (drop (2 * k) ds), length-drop (2 * k) ds, c.requires.nodes, c.cut_of-k.ensures.below)
    in let kept = right-of-kept g.H.HashKind.hash c.args.from k c.args.n (g.L.Leaves.items c.args.leaves.now) ds
    c.cut_of-k.ensures.power c.cut_of-k.ensures.below c.cut_of-k.ensures.largest c.requires.within c.requires.kept
    in let sized = All-take HasSize (length ds - 2 * k) (drop (2 * k) ds) (All-drop HasSize (2 * k) ds c.requires.sized)
    in (omega arith, (lives.0, (lives.1, (count, (sized, (omega arith, (omega arith, (omega arith, kept))))))))

pub returns-then-turns-further-eq0 : goal.returns-then-turns-further-eq0
returns-then-turns-further-eq0 g t c =
    c.string_of_part.ensures
    ∙ sym (string-left g.H.HashKind.hash c.args.from c.cut_of-k.result c.args.n c.args.depth (c.args.depth - 1) c.args.turns (g.L.Leaves.items c.args.leaves.now)
    c.cut_of-k.ensures.power c.cut_of-k.ensures.below c.cut_of-k.ensures.largest c.requires.within (omega arith) c.if-turns-further-eq0.true)

pub returns-else-turns-further-eq0 : goal.returns-else-turns-further-eq0
returns-else-turns-further-eq0 g t c =
    c.string_of_part-else-turns-further-eq0.ensures
    ∙ sym (string-right g.H.HashKind.hash c.args.from c.cut_of-k.result c.args.n c.args.depth (c.args.depth - 1) c.args.turns (g.L.Leaves.items c.args.leaves.now)
    c.cut_of-k.ensures.power c.cut_of-k.ensures.below c.cut_of-k.ensures.largest c.requires.within (omega arith) c.if-turns-further-eq0.false)

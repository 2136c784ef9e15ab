use Rattle.std.proofs.Common.{arith, sym, ◌∙◌}
use Rattle.ats_tree.proofs.RootLemmas.{part-one}
use Rattle.ats_tree.proofs.KeptLemmas.{fill-leaf, fill-node}
use Rattle.ats_tree.proofs.keeping.+keep_part.Goals as goal

-- one leaf
pub returns-then-n-eq1-clause-kept : goal.returns-then-n-eq1-clause-kept
returns-then-n-eq1-clause-kept g t c =
    fill-leaf g.H.HashKind.hash _ _ _ _ _ _ c.if-n-eq1.true c.requires.within
    (c.leaf_digest.ensures.value ∙ sym (part-one g.H.HashKind.hash _ _ _ c.if-n-eq1.true c.requires.within))
    c.split_at_mut-own.ensures.front_len (omega (arith, c.split_at_mut-own.ensures.back_len, c.requires.nodes))

-- two parts
pub returns-clause-kept : goal.returns-clause-kept
returns-clause-kept g t c =
    fill-node g.H.HashKind.hash _ _ _ _ _ _ _ _ _ _
    c.cut_of-k.ensures.power c.cut_of-k.ensures.below c.cut_of-k.ensures.largest c.requires.within
    c.split_at_mut-own.ensures.front_len c.digest2.ensures.value c.keep_part.ensures.kept c.keep_part-2.ensures.kept

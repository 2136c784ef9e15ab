use Rattle.ats_tree.proofs.KeptLemmas.{fill-node}
use Rattle.ats_tree.proofs.keeping_by_threads.+parts.Goals as goal

pub keep_by_threads-returns : goal.keep_by_threads-returns
keep_by_threads-returns g t c =
    fill-node g.H.HashKind.hash _ _ _ _ _ _ _ _ _ _
    c.cut_of-k.ensures.power c.cut_of-k.ensures.below c.cut_of-k.ensures.largest c.requires.within
    c.split_at_mut-own.ensures.front_len c.digest2.ensures.value c.keep_both.ensures.left c.keep_both.ensures.right

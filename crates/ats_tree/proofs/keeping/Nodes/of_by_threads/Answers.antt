use Rattle.ats_tree.proofs.KeptLemmas.{is_node_list, kept-placed}
use Rattle.ats_tree.proofs.keeping.Nodes.of_by_threads.Goals as goal

pub invariant_of-result : goal.invariant_of-result
invariant_of-result g c =
    is_node_list g.H.HashKind.hash g.H.HashKind.sized (g.L.Leaves.items c.args.leaves.now) _ c.requires.some c.requires.few
    (kept-placed g.H.HashKind.hash _ _ _ _ _ c.requires.some c.len-n.ensures c.in_ok-digests.digests.ok.0 c.in_ok-digests.ensures c.keep_by_threads.ensures)

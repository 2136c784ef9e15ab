use Rattle.std.proofs.Common.{◌∙◌}
use Rattle.ats_index.proofs.Whole.{nodes_are_documents}
use Rattle.ats_index.proofs.large_trees.documents_tree.Goals as goal

pub returns-clause-nodes : goal.returns-clause-nodes
returns-clause-nodes g c =
    nodes_are_documents g.H.HashKind.hash c.args.collection.now _ _ (c.deref.ensures.value ∙ c.in_ok-leaves.ensures.leaves) c.in_ok-nodes.ensures

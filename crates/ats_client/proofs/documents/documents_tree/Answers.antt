use Rattle.std.proofs.Common.{◌∙◌}
use Rattle.ats_client.proofs.Counts.{tree_most}
use Rattle.ats_client.proofs.documents.documents_tree.Goals as goal

pub returns-in_default-rebuilt-clause-most : goal.returns-in_default-rebuilt-clause-most
returns-in_default-rebuilt-clause-most g c =
    tree_most c.args.proof.now _ _ _ _ _ c.in-Some.ensures.documents (c.revealed-section.ensures.shown ∙ c.in-Some.ensures.whole) c.revealed-section.ensures.digests c.rebuilt.ensures.most

pub returns-then-ne-clause-most : goal.returns-then-ne-clause-most
returns-then-ne-clause-most g c =
    tree_most c.args.proof.now _ _ _ _ _ c.in-Some.ensures.documents (c.revealed-section.ensures.shown ∙ c.in-Some.ensures.whole) c.revealed-section.ensures.digests c.rebuilt.ensures.most

pub returns-clause-most : goal.returns-clause-most
returns-clause-most g c =
    tree_most c.args.proof.now _ _ _ _ _ c.in-Some.ensures.documents (c.revealed-section.ensures.shown ∙ c.in-Some.ensures.whole) c.revealed-section.ensures.digests c.rebuilt.ensures.most

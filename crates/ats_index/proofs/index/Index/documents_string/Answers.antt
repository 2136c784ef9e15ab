use Rattle.std.proofs.Common.{List, ℕ, sym, ap, ◌∙◌}
use Rattle.std.specs.Prelude.{map}
use Rattle.ats_tree.specs.Kept.{kept_digests}
use Rattle.ats_tree.specs.Paths.{path_of}
use Rattle.ats_tree.specs.Strings.{string_at}
use Rattle.ats_tree.specs.Tree.{tree_of}
use Rattle.ats_commit.specs.Trees.{leaf_of}
use Rattle.ats_doctree.specs.declared.doc_leaf.DocLeaf.{DocLeaf}
use Rattle.ats_index.proofs.Whole.{leaves_are_documents}
use Rattle.ats_index.proofs.index.Index.documents_string.Goals as goal

pub string_at-requires-clause-kept : goal.string_at-requires-clause-kept
string_at-requires-clause-kept g c =
    let H : List ℕ → List ℕ = g.H.HashKind.hash in
    c.docs_nodes.ensures
    ∙ sym (ap (kept_digests H)
    (ap (λ (leaves : List DocLeaf). map leaf_of leaves) c.doc_leaves.ensures.leaves ∙ leaves_are_documents H c.args.self.now.texts))

pub returns : goal.returns
returns g c =
    let H : List ℕ → List ℕ = g.H.HashKind.hash in
    c.string_at.ensures
    ∙ ap (λ (leaves : List (List ℕ)). string_at H (tree_of leaves) (path_of c.args.place.now.depth c.args.place.now.turns))
    (ap (λ (leaves : List DocLeaf). map leaf_of leaves) c.doc_leaves.ensures.leaves ∙ leaves_are_documents H c.args.self.now.texts)

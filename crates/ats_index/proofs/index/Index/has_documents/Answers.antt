use Rattle.std.proofs.Common.{List, ℕ, IsTrue, sym, ap, subst, ◌∙◌}
use Rattle.std.specs.Prelude.{map}
use Rattle.ats_tree.specs.Kept.{kept_digests}
use Rattle.ats_tree.specs.OwnShown.{IsOwnShown}
use Rattle.ats_commit.specs.Trees.{leaf_of}
use Rattle.ats_doctree.specs.declared.doc_leaf.DocLeaf.{DocLeaf}
use Rattle.ats_index.proofs.Whole.{leaves_are_documents}
use Rattle.ats_index.proofs.index.Index.has_documents.Goals as goal

pub has_shown-requires-clause-kept : goal.has_shown-requires-clause-kept
has_shown-requires-clause-kept g c =
    let H : List ℕ → List ℕ = g.H.HashKind.hash in
    c.docs_nodes.ensures
    ∙ sym (ap (kept_digests H)
    (ap (λ (leaves : List DocLeaf). map leaf_of leaves) c.doc_leaves.ensures.leaves ∙ leaves_are_documents H c.args.self.now.texts))

pub returns : goal.returns
returns g c =
    let H : List ℕ → List ℕ = g.H.HashKind.hash in
    let Told : List (List ℕ) → Type 0 = λ leaves.
    (IsTrue c.has_shown.result → IsOwnShown H leaves c.args.n (g.S.PartialTree.shown c.args.shown.now) (g.S.PartialTree.digests c.args.shown.now))
    × (IsOwnShown H leaves c.args.n (g.S.PartialTree.shown c.args.shown.now) (g.S.PartialTree.digests c.args.shown.now) → IsTrue c.has_shown.result) in
    subst Told
    (ap (λ (leaves : List DocLeaf). map leaf_of leaves) c.doc_leaves.ensures.leaves ∙ leaves_are_documents H c.args.self.now.texts)
    c.has_shown.ensures.exact

use Rattle.std.proofs.Common.{ℕ, List, map, ap, sym, ◌∙◌}
use Rattle.ats_tree.specs.Kept.{kept_digests}
use Rattle.ats_doctree.specs.Sentinels.{terms_leaves}
use Rattle.ats_commit.specs.Trees.{leaf_of_terms}
use Rattle.ats_index.proofs.Whole.{digests_of_terms, leaves_of_terms}
use Rattle.ats_index.proofs.doc_leaves.leaves_of_documents.Goals as goal

pub leaves_of-requires : goal.leaves_of-requires
leaves_of-requires g c =
    let H : List ℕ → List ℕ = g.H.HashKind.hash in
    c.requires.nodes ∙ sym (digests_of_terms H c.args.collection.now)
    ∙ ap (map (λ (all : List (List ℕ × ℕ)). kept_digests H (terms_leaves all))) (sym c.requires.terms)

pub returns-clause-leaves : goal.returns-clause-leaves
returns-clause-leaves g c =
    let H : List ℕ → List ℕ = g.H.HashKind.hash in
    c.in_ok-leaves.ensures ∙ ap (map (leaf_of_terms H)) c.requires.terms ∙ leaves_of_terms H c.args.collection.now

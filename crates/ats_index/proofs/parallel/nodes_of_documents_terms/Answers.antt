use Rattle.std.proofs.Common.{rules, ◌<◌, ◌∙◌, ℕ, List, [], length}
use Rattle.rayon.specs.Numbers.{nat_range}
use Rattle.rayon.proofs.ToStd.{nat_range-All}
use Rattle.ats_tree.specs.Kept.{kept_digests}
use Rattle.ats_doctree.specs.Impacts.{text_terms}
use Rattle.ats_doctree.specs.Sentinels.{terms_leaves}
use Rattle.ats_index.proofs.Collected.{collected}
use Rattle.ats_index.proofs.parallel.nodes_of_documents_terms.Goals as goal

pub collect-requires-clause-ready : goal.collect-requires-clause-ready
collect-requires-clause-ready g c κs within =
    let ends = c.into_par_iter.ensures in
    let inside = nat_range-All (λ i. i < length c.args.collection.now) 0 (length c.args.collection.now) (λ i low high. high) in
    rw (c.map.ensures.base, c.map.ensures.f, c.with_min_len.ensures.base, ends.0, ends.1, c.documents-documents.ensures.value) (λ k d lt. ((inside k d lt, (c.requires, search rules)), λ y p. tt))

pub returns : goal.returns
returns g c =
    let texts : List (List ℕ) = c.args.collection.now in
    let ends = c.into_par_iter.ensures in
    let chain = rw (c.map.ensures.base, c.map.ensures.f, c.with_min_len.ensures.base) at (c.in_ok-made.ensures {u = tt}).1 in
    let places = chain.1 ∙ (λ i. nat_range (ends.0 i) ((ends.1 ∙ c.documents-documents.ensures.value) i)) in
    collected (λ (text : List ℕ). kept_digests g.H.HashKind.hash (terms_leaves (text_terms texts text))) [] texts (λ v. v.items) _ chain.0 _ c.in_ok-made.made places chain.2 (c.in_ok-made.ensures {u = tt}).2

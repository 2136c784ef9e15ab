use Rattle.std.proofs.Common.{◌≡◌, [], length, get_or, ap, arith}
use Rattle.ats_terms.specs.Terms.{terms}
use Rattle.ats_doctree.proofs.Counts.{document_counts}
use Rattle.ats_doctree.proofs.doc_terms.DocTerms.from_counts.Goals as goal

pub invariant_of-result : goal.invariant_of-result
invariant_of-result c =
    let texts = c.args.collection.now in
    let own = terms (get_or texts c.args.doc []) in
    let len : c.len.result ≡ length own = rw (← c.terms.ensures.value) c.len.ensures in
    rw (c.total.ensures.value, len, c.documents.ensures.value, c.requires.counts)
    (document_counts texts c.args.doc c.requires.doc (omega (arith, c.documents.ensures.few, c.documents.ensures.value))
    (omega (arith, c.total.ensures.few, c.total.ensures.value)) (omega (arith, c.terms.ensures.few, ap length c.terms.ensures.value)))

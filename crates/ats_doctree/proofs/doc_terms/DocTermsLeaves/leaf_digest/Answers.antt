use Rattle.std.proofs.Common.{◌∙◌, ◌<◌, ◌+◌, ◌++◌, ◌∷◌, ℕ, List, length, ap, arith}
use Rattle.ats_doctree.proofs.Positions.{length-terms_leaves, leaf_of_parts}
use Rattle.ats_doctree.proofs.doc_terms.DocTermsLeaves.leaf_digest.Goals as goal

pub returns-clause-value : goal.returns-clause-value
returns-clause-value g c =
    let s = c.args.self.now in
    let inside : c.args.i < length s + 2 = omega (arith, c.requires.within, length-terms_leaves s) in
    c.digest2.ensures.value
    ∙ ap (λ (xs : List ℕ). g.H.HashKind.hash (0 ∷ xs))
    (ap (λ (xs : List ℕ). xs ++ c.to_be_bytes.result) c.put_term.ensures
    ∙ leaf_of_parts s c.args.i c.term-term.result.now c.to_be_bytes.result c.impact.result inside c.term-term.ensures.value c.impact.ensures.value c.to_be_bytes.ensures)

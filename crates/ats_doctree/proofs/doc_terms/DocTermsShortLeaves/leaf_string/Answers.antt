use Rattle.std.proofs.Common.{◌∙◌, ◌<◌, ◌+◌, ◌++◌, ◌∷◌, ℕ, List, length, ap, arith}
use Rattle.ats_doctree.proofs.Positions.{length-terms_leaves, leaf_of_parts}
use Rattle.ats_doctree.proofs.doc_terms.DocTermsShortLeaves.leaf_string.Goals as goal

pub returns : goal.returns
returns c =
    let s = c.args.self.now in
    let inside : c.args.i < length s + 2 = omega (arith, c.requires, length-terms_leaves s) in
    c.push.ensures
    ∙ ap (λ (xs : List ℕ). xs ++ c.to_be_bytes.result) c.tagged-string.ensures
    ∙ ap (λ (xs : List ℕ). 0 ∷ xs)
    (leaf_of_parts s c.args.i c.term-term.result.now c.to_be_bytes.result c.impact.result inside c.term-term.ensures.value c.impact.ensures.value c.to_be_bytes.ensures)

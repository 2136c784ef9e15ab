-- What contracts see of the view of a document's terms.
use Rattle.std.specs.Prelude.{ℕ, List}
use Rattle.ats_proof.specs.declared.record.TermLeaf.{TermLeaf}
use Rattle.ats_proof.specs.Parts.{parts_in}
use Rattle.ats_proof.specs.Value.{ShownTerm}
use Rattle.ats_proof.specs.Reading.{term_size, term_in}
use Rattle.ats_proof.specs.declared.terms.TermsView.{TermsView}

abbrev pub terms_of : TermsView → List ShownTerm
terms_of view = parts_in term_size term_in view.leaves.left view.leaves.bytes.now

abbrev pub term_of : TermLeaf → List ℕ × ℕ
term_of leaf = (leaf.term.now, leaf.impact)

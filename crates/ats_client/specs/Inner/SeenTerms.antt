-- The views of a met document during the check, as specifications see them.
use Rattle.std.specs.Prelude.{List}
use Rattle.ats_proof.specs.Value.{ShownTerm}
use Rattle.ats_proof.specs.SeenDocs.{doc_of, leaf_of, section_of}
use Rattle.ats_proof.specs.SeenTerms as view
use Rattle.ats_proof.specs.declared.docs.DocView.{DocView}
use Rattle.ats_proof.specs.declared.terms.TermsView.{TermsView}
use Rattle.ats_client.specs.declared.term.Term.{Term}
use Rattle.ats_client.specs.Documents.{MetDocument}

-- the leaves that are left of a document's terms
unfoldable pub terms_left : TermsView → List ShownTerm
terms_left terms = view.terms_of terms

abbrev pub term_of : Term → ShownTerm
term_of term = record { position = term.position; term = view.term_of term.leaf }

-- the document that is checked
abbrev pub document_of : DocView → MetDocument
document_of doc = record { doc = doc_of doc; leaf = leaf_of doc; section = section_of doc }

-- What contracts see of the views of the documents.
use Rattle.std.specs.Prelude.{ℕ, List}
use Rattle.ats_tree.specs.Shown.{Shown}
use Rattle.ats_doctree.specs.declared.doc_leaf.DocLeaf.{DocLeaf}
use Rattle.ats_proof.specs.Parts.{parts_in}
use Rattle.ats_proof.specs.Value.{TermsSection, Documents}
use Rattle.ats_proof.specs.Reading.{id_size, id_in, doc_size, doc_in, slot_size, slot_in, section_size, section_in}
use Rattle.ats_proof.specs.Runs.{shown_docs}
use Rattle.ats_proof.specs.Seen.{digests_of}
use Rattle.ats_proof.specs.SeenTerms.{terms_of}
use Rattle.ats_proof.specs.declared.docs_cursor.DocsCursor.{DocsCursor}
use Rattle.ats_proof.specs.declared.docs.DocsView.{DocsView}
use Rattle.ats_proof.specs.declared.docs.DocView.{DocView}

abbrev pub docs_leaves_of : DocsCursor → List Shown
docs_leaves_of cursor = shown_docs (parts_in id_size id_in cursor.left cursor.ids.now) (parts_in doc_size doc_in cursor.left cursor.leaves.now)

abbrev pub ids_of : DocsView → List ℕ
ids_of view = parts_in id_size id_in view.left view.ids.now

abbrev pub doc_leaves_of : DocsView → List DocLeaf
doc_leaves_of view = parts_in doc_size doc_in view.left view.leaves.now

abbrev pub sections_of : DocsView → List TermsSection
sections_of view = parts_in (section_size view.present) (section_in view.present) view.left view.sections.now

-- the whole documents section, however many documents were passed
abbrev pub whole_leaves_of : DocsView → List Shown
whole_leaves_of view = docs_leaves_of view.whole

abbrev pub whole_digests_of : DocsView → List (List ℕ)
whole_digests_of view = digests_of view.whole.digests

abbrev pub documents_of : DocsView → Documents
documents_of view = record { leaves = doc_leaves_of view; digests = whole_digests_of view; sections = sections_of view }

abbrev pub section_of : DocView → TermsSection
section_of view = record {
  leaves = terms_of view.terms;
  digests = digests_of view.terms.digests;
  slots = parts_in slot_size slot_in view.present view.slots.now;
}

abbrev pub leaf_of : DocView → DocLeaf
leaf_of view = doc_in view.leaf.now

abbrev pub doc_of : DocView → ℕ
doc_of view = view.doc

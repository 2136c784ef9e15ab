-- The met documents that are left, as a view of them has them.
use Rattle.std.specs.Prelude.{List}
use Rattle.ats_proof.specs.SeenDocs.{ids_of, doc_leaves_of, sections_of}
use Rattle.ats_proof.specs.declared.docs.DocsView.{DocsView}
use Rattle.ats_client.specs.Documents.{MetDocument, documents_from}

abbrev pub documents_left : DocsView → List MetDocument
documents_left docs = documents_from (ids_of docs) (doc_leaves_of docs) (sections_of docs)

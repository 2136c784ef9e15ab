-- The met documents, one after another.
use Rattle.std.proofs.Common.{◌≡◌, ◌∙◌, ◌++◌, ℕ, true, false, cond, List, [], ◌∷◌, drop, slice_get, Some, None, sym, ap, append_assoc, map}
use Rattle.std.specs.List.{filter}
use Rattle.std.proofs.lemmas.List.{append-nil}
use Rattle.ats_doctree.specs.declared.doc_leaf.DocLeaf.{DocLeaf}
use Rattle.ats_proof.specs.SeenDocs.{ids_of, doc_leaves_of, sections_of}
use Rattle.ats_proof.specs.Value.{TermsSection}
use Rattle.ats_proof.specs.declared.docs.DocsView.{DocsView}
use Rattle.ats_client.specs.Documents.{MetDocument, documents_from}
use Rattle.ats_client.proofs.Public.{taken}
use Rattle.ats_all_check.specs.Documents.{shows_all, with_all}
use Rattle.ats_all_check.specs.Inner.Met.{documents_left}

next_document : (ids more_ids : List ℕ) (leaves more_leaves : List DocLeaf) (sections more_sections : List TermsSection) (one : MetDocument)
    → ids ≡ one.doc ∷ more_ids → leaves ≡ one.leaf ∷ more_leaves → sections ≡ one.section ∷ more_sections
    → documents_from ids leaves sections ≡ one ∷ documents_from more_ids more_leaves more_sections
next_document ids more_ids leaves more_leaves sections more_sections one is_id is_leaf is_section =
    ap (λ (l : List ℕ). documents_from l leaves sections) is_id
    ∙ ap (λ (l : List DocLeaf). documents_from (one.doc ∷ more_ids) l sections) is_leaf
    ∙ ap (λ (l : List TermsSection). documents_from (one.doc ∷ more_ids) (one.leaf ∷ more_leaves) l) is_section

-- the document is the first of those that are left, and the others are left after it
pub record IsNext (before after : DocsView) (one : MetDocument) : Type 0 where
  pub all : documents_left before ≡ one ∷ documents_left after
  pub ids : ids_of before ≡ one.doc ∷ ids_of after
  pub sections : sections_of before ≡ one.section ∷ sections_of after

pub takes : (before after : DocsView) (one : MetDocument) → Some one.doc ≡ slice_get (ids_of before) 0 → Some one.leaf ≡ slice_get (doc_leaves_of before) 0
    → Some one.section ≡ slice_get (sections_of before) 0 → ids_of after ≡ drop 1 (ids_of before) → doc_leaves_of after ≡ drop 1 (doc_leaves_of before)
    → sections_of after ≡ drop 1 (sections_of before) → IsNext before after one
takes before after one id leaf section more_ids more_leaves more_sections =
    let is_id = taken (ids_of before) (ids_of after) one.doc id more_ids in
    let is_leaf = taken (doc_leaves_of before) (doc_leaves_of after) one.leaf leaf more_leaves in
    let is_section = taken (sections_of before) (sections_of after) one.section section more_sections in
    record {
      all = next_document (ids_of before) (ids_of after) (doc_leaves_of before) (doc_leaves_of after) (sections_of before) (sections_of after) one is_id is_leaf is_section;
      ids = is_id;
      sections = is_section;
    }

-- a document that has every term is kept
pub keeps : (documents : List ℕ) (one : MetDocument) (rest : List MetDocument) → shows_all one ≡ true
    → documents ++ with_all (one ∷ rest) ≡ (documents ++ one.doc ∷ []) ++ with_all rest
keeps documents one rest is =
    ap (λ b. documents ++ map (λ (o : MetDocument). o.doc) (cond b (one ∷ filter shows_all rest) (filter shows_all rest))) is
    ∙ sym (append_assoc documents (one.doc ∷ []) (with_all rest))

-- any other is not
pub passes_over : (documents : List ℕ) (one : MetDocument) (rest : List MetDocument) → shows_all one ≡ false
    → documents ++ with_all (one ∷ rest) ≡ documents ++ with_all rest
passes_over documents one rest not =
    ap (λ b. documents ++ map (λ (o : MetDocument). o.doc) (cond b (one ∷ filter shows_all rest) (filter shows_all rest))) not

-- after the last one all are kept that have every term
pub none_left : (documents ids : List ℕ) (leaves : List DocLeaf) (sections : List TermsSection) → None ≡ slice_get ids 0
    → documents ++ with_all (documents_from ids leaves sections) ≡ documents
none_left documents [] leaves sections none = append-nil documents
none_left documents (id ∷ ids) leaves sections none = absurd (cc)

-- The descent into what is shown of the met documents: from the header to the documents tree, and from there to the terms of
-- each document.
use Rattle.std.proofs.Common.{◌≡◌, ◌∙◌, ◌+◌, ◌<◌, ◌≤◌, ℕ, List, [], ◌∷◌, ◌++◌, length, map, nat_lt, true, slice_get, Option, Some, None, refl, sym, ap, ap₂, subst, arith}
use Rattle.std.specs.List.{All, flat_map}
use Rattle.std.specs.List.Sorted.{IsStrictlyIncreasing}
use Rattle.std.specs.Option.{ForSome}
use Rattle.std.proofs.lemmas.Bool.{cond-true}
use Rattle.std.proofs.lemmas.Bool.Decides.{nat_tests}
use Rattle.std.proofs.lemmas.List.{length-map}
use Rattle.std.proofs.lemmas.List.Elements.{All-nil, All-cons, All-head, All-tail}
use Rattle.std.proofs.lemmas.Simd.{map-map}
use Rattle.ats_tree.specs.Nodes.{Node}
use Rattle.ats_tree.specs.Shown.{Shown}
use Rattle.ats_tree.specs.Strings.{node_string, node_strings}
use Rattle.ats_tree.specs.Part.{RisesFrom}
use Rattle.ats_tree.specs.Differences.{Hashed}
use Rattle.ats_tree.specs.declared.places.Place.{Place}
use Rattle.ats_tree.specs.declared.places.Tree.TheVariants.{Documents as DocumentsTree, Terms}
use Rattle.ats_tree.proofs.Public.{bound_to, numbers-lead, rises-increasing, Binds, binds-both, binds-weaker, binds-all}
use Rattle.ats_dict.specs.declared.header.Header.{Header}
use Rattle.ats_doctree.specs.DocumentLeaf.{doc_leaf_bytes}
use Rattle.ats_doctree.specs.Impacts.{doc_terms, text_terms}
use Rattle.ats_doctree.specs.Sentinels.{terms_leaves}
use Rattle.ats_doctree.specs.declared.doc_leaf.DocLeaf.{DocLeaf}
use Rattle.ats_commit.specs.Archive.{Archive}
use Rattle.ats_commit.specs.Trees.{documents_of, documents_leaf}
use Rattle.ats_commit.specs.Own.{AreTexts, IsHeaderOf, IsDocumentOf}
use Rattle.ats_commit.specs.Ours.{ours}
use Rattle.ats_commit.proofs.Public.{leaf_tells_document}
use Rattle.ats_proof.specs.Value.{TermsSection, Documents}
use Rattle.ats_proof.specs.Ranges.{AreDigests, IsSectionInRange, IsDocLeafInRange, AreDocumentsInRange}
use Rattle.ats_proof.specs.Runs.{shown_docs, shown_term}
use Rattle.ats_proof.proofs.Public.{increasing-tail}
use Rattle.ats_client.specs.Documents.{MetDocument, documents_from, documents_in, AreDocsRooted, IsTermsTree}
use Rattle.ats_client.specs.Strings.{strings_in, terms_strings, documents_strings, AreLeavesOf, IsOwnDocument, AreOwnDocuments}
use Rattle.ats_client.proofs.DescentTrees.{tree-binds}

-- ---- the documents tree

-- leaves at the numbers of documents that rise have rising positions
rises-documents : (from id : ℕ) (met : List ℕ) (leaves : List DocLeaf) → from ≤ id → IsStrictlyIncreasing (id ∷ met) → RisesFrom from (shown_docs (id ∷ met) leaves)
rises-documents from id met [] low rises = tt
rises-documents from id [] (leaf ∷ leaves) low rises = (low, tt)
rises-documents from id (next ∷ met) (leaf ∷ leaves) low rises =
    let above : id < next = rises 0 (omega arith)
    in (low, rises-documents (id + 1) next met leaves (omega arith) (increasing-tail id (next ∷ met) rises))

all-rise : (met : List ℕ) (leaves : List DocLeaf) → IsStrictlyIncreasing met → RisesFrom 0 (shown_docs met leaves)
all-rise [] leaves rises = tt
all-rise (id ∷ met) leaves rises = rises-documents 0 id met leaves (omega arith) rises

-- the shown leaves rebuild to the documents root of a header that is the archive's
pub documents-bind : (H : List ℕ → List ℕ) → ((m : List ℕ) → length (H m) ≡ 32) → (archive : Archive) (query : List (List ℕ × ℕ)) (header : Header) (met : List ℕ) (docs : Documents)
    → IsStrictlyIncreasing met → AreDigests docs.digests → AreDocsRooted H header met (Some docs) → IsHeaderOf H archive header
    → Binds H (ours H archive query) (strings_in H DocumentsTree header.documents (shown_docs met docs.leaves) docs.digests)
    (AreLeavesOf (documents_of H archive.texts) (shown_docs met docs.leaves))
documents-bind H sized archive query header met docs rises digests rooted is =
    let shown : List Shown = shown_docs met docs.leaves
    in let leaves : List (List ℕ) = documents_of H archive.texts
    in let size : length leaves ≡ header.documents = length-map archive.texts (λ text. documents_leaf H (terms_leaves (text_terms archive.texts text))) ∙ sym is.number
    in tree-binds H DocumentsTree (ours H archive query) (node_string H leaves) (node_strings H header.documents shown docs.digests)
    (AreLeavesOf leaves shown) (λ node. ap (node_string H leaves) (numbers-lead node))
    (bound_to H sized header.documents shown docs.digests header.docs_root (all-rise met docs.leaves rises) digests rooted leaves size (sym is.all))

-- ---- the terms of one document

-- the shown leaves rebuild to the root in the document's leaf, which is the archive's
pub terms-bind : (H : List ℕ → List ℕ) → ((m : List ℕ) → length (H m) ≡ 32) → (archive : Archive) (query : List (List ℕ × ℕ)) (one : MetDocument)
    → IsDocumentOf H archive.texts one.doc one.leaf → IsSectionInRange one.section → IsTermsTree H one
    → Binds H (ours H archive query) (terms_strings H one) (IsOwnDocument archive.texts one)
terms-bind H sized archive query one is range rooted =
    let shown : List Shown = map shown_term one.section.leaves
    in let leaves : List (List ℕ) = terms_leaves (doc_terms archive.texts one.doc)
    in let low : one.doc < length archive.texts = is.inside
    in let inside : nat_lt one.doc (length archive.texts) ≡ true = grind (arith, nat_tests)
    in let rises : RisesFrom 0 shown = rises-increasing shown (subst IsStrictlyIncreasing (sym (map-map (λ (s : Shown). s.0) shown_term one.section.leaves)) range.rises)
    in tree-binds H (Terms one.doc) (ours H archive query) (node_string H leaves) (node_strings H one.leaf.leaves shown one.section.digests)
    (AreLeavesOf leaves shown) (λ node. ap₂ (λ (l : List (List ℕ)) (n : Node). node_string H l n) (cond-true (nat_lt one.doc (length archive.texts)) leaves [] inside) (numbers-lead node))
    (bound_to H sized one.leaf.leaves shown one.section.digests one.leaf.root rises range.sized rooted leaves (sym is.leaves) (sym is.root))

-- ---- all met documents

module _ (H : List ℕ → List ℕ) (archive : Archive) (are : AreTexts archive.texts) where
  -- a documents leaf that is the archive's own says which terms the document has
  pub each-known : (met : List ℕ) (leaves : List DocLeaf) (sections : List TermsSection) → All IsDocLeafInRange leaves
      → AreLeavesOf (documents_of H archive.texts) (shown_docs met leaves)
      → All (λ (one : MetDocument). IsDocumentOf H archive.texts one.doc one.leaf) (documents_from met leaves sections)
  each-known [] leaves sections ranges own = All-nil _
  each-known (id ∷ met) [] sections ranges own = All-nil _
  each-known (id ∷ met) (leaf ∷ leaves) [] ranges own = All-nil _
  each-known (id ∷ met) (leaf ∷ leaves) (section ∷ sections) ranges own =
      let Own : Shown → Type 0 = λ (s : Shown). slice_get (documents_of H archive.texts) s.0 ≡ Some s.1
      in let first : Shown = (id, doc_leaf_bytes leaf.leaves leaf.root)
      in let here : IsDocumentOf H archive.texts id leaf =
      leaf_tells_document H archive.texts are id leaf (All-head IsDocLeafInRange leaf leaves ranges).number (All-head Own first (shown_docs met leaves) own)
      in All-cons (λ (one : MetDocument). IsDocumentOf H archive.texts one.doc one.leaf) (record { doc = id; leaf = leaf; section = section }) (documents_from met leaves sections) here
      (each-known met leaves sections (All-tail IsDocLeafInRange leaf leaves ranges) (All-tail Own first (shown_docs met leaves) own))

-- what holds of all sections holds of those of the met documents
pub sections-hold : (P : TermsSection → Type 0) (met : List ℕ) (leaves : List DocLeaf) (sections : List TermsSection) → All P sections
    → All (λ (one : MetDocument). P one.section) (documents_from met leaves sections)
sections-hold P [] leaves sections each = All-nil _
sections-hold P (id ∷ met) [] sections each = All-nil _
sections-hold P (id ∷ met) (leaf ∷ leaves) [] each = All-nil _
sections-hold P (id ∷ met) (leaf ∷ leaves) (section ∷ sections) each =
    All-cons (λ (one : MetDocument). P one.section) (record { doc = id; leaf = leaf; section = section }) (documents_from met leaves sections)
    (All-head P section sections each) (sections-hold P met leaves sections (All-tail P section sections each))

-- what is shown of the met documents, if the documents tree and each document's terms rebuild to the roots that the
-- proof has
pub all-documents-bind : (H : List ℕ → List ℕ) → ((m : List ℕ) → length (H m) ≡ 32) → (archive : Archive) (query : List (List ℕ × ℕ)) (header : Header) (met : List ℕ) (docs : Option Documents)
    → AreTexts archive.texts → IsStrictlyIncreasing met → ForSome docs AreDocumentsInRange → AreDocsRooted H header met docs → All (IsTermsTree H) (documents_in met docs)
    → IsHeaderOf H archive header → Binds H (ours H archive query) (documents_strings H header met docs) (ForSome docs (AreOwnDocuments H archive.texts met))
all-documents-bind H sized archive query header met None are rises range rooted trees is = λ docs some. absurd (cc)
all-documents-bind H sized archive query header met (Some docs) are rises range rooted trees is =
    let own : Place → Option (List ℕ) = ours H archive query
    in let top : List (Hashed Place) = strings_in H DocumentsTree header.documents (shown_docs met docs.leaves) docs.digests
    in let ones : List MetDocument = documents_from met docs.leaves docs.sections
    in let below : List (Hashed Place) = flat_map (terms_strings H) ones
    in let Leaves : Type 0 = AreLeavesOf (documents_of H archive.texts) (shown_docs met docs.leaves)
    in let Each : Type 0 = All (IsOwnDocument archive.texts) ones
    in let ranges : AreDocumentsInRange docs = range docs refl
    in binds-weaker H own (top ++ below) (Leaves × Each) (ForSome (Some docs) (AreOwnDocuments H archive.texts met))
    (λ both other same.
    let told : docs ≡ other = cc
    in subst (AreOwnDocuments H archive.texts met) told (record { leaves = both.0; each = both.1 }))
    (binds-both H own top below Leaves Each
    (documents-bind H sized archive query header met docs rises ranges.sized rooted is)
    (λ leaves. binds-all H own (terms_strings H) (IsOwnDocument archive.texts) ones
    (λ k d low. terms-bind H sized archive query _ (each-known H archive are met docs.leaves docs.sections ranges.each leaves k d low)
    (sections-hold IsSectionInRange met docs.leaves docs.sections ranges.sections k d low) (trees k d low))))

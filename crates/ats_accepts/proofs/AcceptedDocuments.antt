-- The check accepts what a proof of a cut shows of the met documents.
use Rattle.std.proofs.Common.{◌≡◌, ◌<◌, ◌≤◌, ℕ, List, [], ◌∷◌, length, map, get_or, Option, None, Some, refl, sym, ap, ap₂, subst, ◌∙◌, arith}
use Rattle.std.specs.List.{All}
use Rattle.std.specs.List.Sorted.{IsStrictlyIncreasing}
use Rattle.std.proofs.lemmas.List.{get_or-map}
use Rattle.std.proofs.lemmas.List.Elements.{All-nil, All-cons}
use Rattle.ats_tree.specs.Tree.{mth}
use Rattle.ats_tree.specs.Shown.{Shown}
use Rattle.ats_tree.specs.Rebuild.{rebuilt}
use Rattle.ats_tree.specs.Elided.{elided_digests, shown_with}
use Rattle.ats_dict.specs.declared.header.Header.{Header}
use Rattle.ats_doctree.specs.Impacts.{doc_terms, text_terms}
use Rattle.ats_doctree.specs.Sentinels.{terms_leaves}
use Rattle.ats_doctree.specs.declared.doc_leaf.DocLeaf.{DocLeaf}
use Rattle.ats_commit.specs.Ours.{asked_term}
use Rattle.ats_commit.specs.Trees.{documents_leaf, documents_of, leaf_of}
use Rattle.ats_proof.specs.declared.record.Algorithm.{Algorithm}
use Rattle.ats_proof.specs.declared.record.Algorithm.TheVariants.{Tra, Tnra}
use Rattle.ats_proof.specs.Value.{Documents, TermsSection}
use Rattle.ats_proof.specs.Runs.{shown_docs}
use Rattle.ats_client.specs.Documents.{AreDocsRooted, IsDocumentRight, documents_from, documents_in}
use Rattle.ats_honest.specs.Documents.{AreHonestSections, HasDocuments, document_leaf}
use Rattle.ats_honest.proofs.Public.{documents_each}
use Rattle.ats_accepts.proofs.PartialTrees.{leaves_shown, positions_rebuild}
use Rattle.ats_accepts.proofs.AcceptedSections.{section_rebuilds, section_shows}

module _ (H : List ℕ → List ℕ) (texts : List (List ℕ)) where
  -- ---- their leaves in the tree of all documents

  abbrev own_leaf : ℕ → Shown
  own_leaf doc = (doc, leaf_of (document_leaf H texts doc))

  docs_shown : (met : List ℕ) → shown_docs met (map (document_leaf H texts) met) ≡ map own_leaf met
  docs_shown [] = refl
  docs_shown (doc ∷ met) = ap (λ (rest : List Shown). own_leaf doc ∷ rest) (docs_shown met)

  document_at : (doc : ℕ) → doc < length texts → get_or (documents_of H texts) doc [] ≡ leaf_of (document_leaf H texts doc)
  document_at doc inside = get_or-map (λ (text : List ℕ). documents_leaf H (terms_leaves (text_terms texts text))) texts doc [] [] inside

  -- they are those at the documents' numbers
  pub documents_shown : (met : List ℕ) → All (λ doc. doc < length texts) met
      → shown_docs met (map (document_leaf H texts) met) ≡ shown_with (documents_of H texts) met
  documents_shown met low =
      let size = documents_each H texts in
      docs_shown met ∙ leaves_shown (documents_of H texts) own_leaf met
      (λ doc inside. ap (λ (bytes : List ℕ). let leaf : Shown = (doc, bytes) in leaf) (sym (document_at doc (omega (arith, inside, size)))))
      (λ k d inside. omega (arith, low k d inside, size))

  -- they rebuild to its root
  documents_rebuild : (met : List ℕ) → 1 ≤ length texts → IsStrictlyIncreasing met → All (λ doc. doc < length texts) met
      → rebuilt H (length texts) (shown_docs met (map (document_leaf H texts) met)) (elided_digests H (documents_of H texts) met) ≡ Some (mth H (documents_of H texts))
  documents_rebuild met some rise low =
      let leaves = documents_of H texts in
      let size = documents_each H texts in
      ap₂ (λ (n : ℕ) (shown : List Shown). rebuilt H n shown (elided_digests H leaves met)) (sym size) (documents_shown met low)
      ∙ positions_rebuild H leaves met (omega (arith, size, some)) rise (λ k d inside. omega (arith, low k d inside, size))

  module _ (terms : List (List ℕ × ℕ)) where
    pub partial_tree : (algorithm : Algorithm) (met : List ℕ) (docs : Option Documents) (header : Header) → header.documents ≡ length texts → header.docs_root ≡ mth H (documents_of H texts)
        → HasDocuments algorithm H texts terms met docs → (algorithm ≡ Tra → 1 ≤ length texts) → IsStrictlyIncreasing met → All (λ doc. doc < length texts) met
        → AreDocsRooted H header met docs
    partial_tree Tnra met None header many root has some rise low = tt
    partial_tree Tnra met (Some docs) header many root has some rise low = absurd (cc)
    partial_tree Tra met None header many root has some rise low = absurd has
    partial_tree Tra met (Some docs) header many root has some rise low =
        ap (λ (n : ℕ). rebuilt H n (shown_docs met docs.leaves) docs.digests) many
        ∙ ap₂ (λ (leaves : List DocLeaf) (digests : List (List ℕ)). rebuilt H (length texts) (shown_docs met leaves) digests) has.leaves has.digests
        ∙ documents_rebuild met (some refl) rise low
        ∙ ap Some (sym root)

    -- ---- their terms

    module _ (query : List (List ℕ × ℕ)) (numbers : List ℕ) (named : map (asked_term query) numbers ≡ map (λ (pair : List ℕ × ℕ). pair.0) terms) where
      sections_right : (met : List ℕ) (sections : List TermsSection) → AreHonestSections H texts terms met sections
          → All (IsDocumentRight H query numbers) (documents_from met (map (document_leaf H texts) met) sections)
      sections_right [] sections are = All-nil (IsDocumentRight H query numbers)
      sections_right (doc ∷ met) [] are = absurd are
      sections_right (doc ∷ met) (section ∷ sections) are =
          let items = doc_terms texts doc in
          All-cons (IsDocumentRight H query numbers) (record { doc = doc; leaf = document_leaf H texts doc; section = section })
          (documents_from met (map (document_leaf H texts) met) sections)
          (record { tree = section_rebuilds H items terms section are.0; slots = section_shows H items terms section are.0 query numbers named })
          (sections_right met sections are.1)

      pub shown_documents : (algorithm : Algorithm) (met : List ℕ) (docs : Option Documents) → HasDocuments algorithm H texts terms met docs
          → All (IsDocumentRight H query numbers) (documents_in met docs)
      shown_documents Tnra met None has = All-nil (IsDocumentRight H query numbers)
      shown_documents Tnra met (Some docs) has = absurd (cc)
      shown_documents Tra met None has = absurd has
      shown_documents Tra met (Some docs) has =
          subst (λ (leaves : List DocLeaf). All (IsDocumentRight H query numbers) (documents_from met leaves docs.sections)) (sym has.leaves)
          (sections_right met docs.sections has.sections)

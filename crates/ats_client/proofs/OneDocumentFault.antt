-- The groups of rules of the met documents: each holds or fails first in one way.
use Rattle.std.proofs.Common.{◌≡◌, ◌⊎◌, ◌∙◌, ℕ, List, length, map, get_or, Option, Some, None, refl, sym, ap, ap₂, inl, inr}
use Rattle.ats_dict.specs.declared.header.Header.{Header}
use Rattle.ats_commit.specs.Ours.{asked_term}
use Rattle.ats_proof.specs.Value.{Documents, Proof}
use Rattle.ats_refusal.specs.declared.proof.Refusal.{Refusal}
use Rattle.ats_refusal.specs.declared.proof.Refusal.TheVariants.{DocsMisfit, DocsRoot, TermsMisfit, TermsRoot, TermSlot}
use Rattle.ats_client.specs.Groups.{IsOther, slot_at}
use Rattle.ats_client.specs.Documents.{MetDocument, met_documents, docs_digest, AreDocsRooted, IsDocsRootFault, terms_digest, IsTermsTree, IsTermsFault, term_shown, present_numbers, IsTermSlotRight, AreTermSlotsRight, IsTermSlotsFault, document_rules, IsDocumentRight, AreDocumentsRight, IsDocumentsFault}
use Rattle.ats_base.specs.Rules.{Group, IsFirstFault}
use Rattle.ats_client.proofs.Exact.{IsDigestFault, digest_exact}
use Rattle.ats_base.proofs.Public.{not_first_of, one_first_of, hold_or_first_of}
use Rattle.ats_client.proofs.Least.{one_least, all_or_first}
use Rattle.ats_base.proofs.Public.{IsExact, AreExact, not_all_hold, one_first, hold_or_first}
use Rattle.ats_client.proofs.Shows.{same_or_other, shows_term_or_not}

-- ---- one digest

-- a rebuilt digest is this one, or there is none, or it is another one
is_or_other : (digest : Option (List ℕ)) (root : List ℕ) → (digest ≡ Some root) ⊎ ((digest ≡ None) ⊎ IsOther digest root)
is_or_other None root = inr (inl refl)
is_or_other (Some other) root = elim (same_or_other other root) [
  | inl same ↦ inl (ap (λ d. Some d) same)
  | inr differs ↦ inr (inr (record { other = other; rebuilt = refl; differs = differs }))
]

-- ---- the documents tree

docs_fault : (H : List ℕ → List ℕ) (header : Header) (met : List ℕ) (docs : Documents) (refusal : Refusal) → IsDocsRootFault H header met (Some docs) refusal
    → IsDigestFault DocsMisfit DocsRoot (docs_digest H header met docs) header.docs_root refusal
docs_fault H header met docs DocsMisfit fault = inl (refl, fault)
docs_fault H header met docs DocsRoot fault = inr (refl, fault)
docs_fault H header met docs _ fault = absurd fault

pub docs_exact : (H : List ℕ → List ℕ) (header : Header) (met : List ℕ) (docs : Option Documents)
    → IsExact (let group : Group Refusal = record { holds = AreDocsRooted H header met docs; fault = IsDocsRootFault H header met docs } in group)
docs_exact H header met None = record { breaks = λ refusal fault rooted. fault; one = λ a b is also. absurd is }
docs_exact H header met (Some docs) =
    digest_exact DocsMisfit DocsRoot (docs_digest H header met docs) header.docs_root (IsDocsRootFault H header met (Some docs)) (docs_fault H header met docs)

pub docs_tried : (H : List ℕ → List ℕ) (header : Header) (met : List ℕ) (docs : Option Documents)
    → AreDocsRooted H header met docs ⊎ ((refusal : Refusal) × IsDocsRootFault H header met docs refusal)
docs_tried H header met None = inl tt
docs_tried H header met (Some docs) = elim (is_or_other (docs_digest H header met docs) header.docs_root) [
  | inl is ↦ inl is
  | inr (inl none) ↦ inr (DocsMisfit, none)
  | inr (inr other) ↦ inr (DocsRoot, other)
]

-- ---- the tree of one document's terms

terms_fault : (H : List ℕ → List ℕ) (one : MetDocument) (refusal : Refusal) → IsTermsFault H one refusal
    → IsDigestFault (TermsMisfit one.doc) (TermsRoot one.doc) (terms_digest H one) one.leaf.root refusal
terms_fault H one (TermsMisfit doc) fault = inl (ap TermsMisfit fault.0, fault.1)
terms_fault H one (TermsRoot doc) fault = inr (ap TermsRoot fault.0, fault.1)
terms_fault H one _ fault = absurd fault

terms_tried : (H : List ℕ → List ℕ) (one : MetDocument) → IsTermsTree H one ⊎ ((refusal : Refusal) × IsTermsFault H one refusal)
terms_tried H one = elim (is_or_other (terms_digest H one) one.leaf.root) [
  | inl is ↦ inl is
  | inr (inl none) ↦ inr (TermsMisfit one.doc, (refl, none))
  | inr (inr other) ↦ inr (TermsRoot one.doc, (refl, other))
]

-- ---- the slots of one document

not_slots : (query : List (List ℕ × ℕ)) (numbers : List ℕ) (one : MetDocument) (refusal : Refusal) → IsTermSlotsFault query numbers one refusal
    → AreTermSlotsRight query numbers one.section → ⊥
not_slots query numbers one (TermSlot doc term) fault right = fault.1.wrong (right fault.1.place fault.1.inside)
not_slots query numbers one _ fault right = fault

one_slot : (query : List (List ℕ × ℕ)) (numbers : List ℕ) (one : MetDocument) (a b : Refusal) → IsTermSlotsFault query numbers one a → IsTermSlotsFault query numbers one b → a ≡ b
one_slot query numbers one (TermSlot doc term) (TermSlot other number) is also =
    let place = one_least (IsTermSlotRight query numbers one.section) is.1.place also.1.place is.1.wrong also.1.wrong is.1.before also.1.before in
    ap₂ TermSlot (is.0 ∙ sym also.0) (is.1.number ∙ ap (λ k. get_or numbers k 0) place ∙ sym also.1.number)
one_slot query numbers one (TermSlot doc term) _ is also = absurd also
one_slot query numbers one _ b is also = absurd is

slots_tried : (query : List (List ℕ × ℕ)) (numbers : List ℕ) (one : MetDocument)
    → AreTermSlotsRight query numbers one.section ⊎ ((refusal : Refusal) × IsTermSlotsFault query numbers one refusal)
slots_tried query numbers one =
    let tried = all_or_first (IsTermSlotRight query numbers one.section)
    (λ i. shows_term_or_not (map term_shown one.section.leaves) (asked_term query (get_or numbers i 0)) (slot_at one.section.slots i)) (length numbers) in
    elim tried [
      | inl all ↦ inl all
      | inr first ↦ inr (
        TermSlot one.doc (get_or numbers first.place 0),
        (
          refl,
          record {
            place = first.place;
            inside = first.inside;
            number = refl;
            wrong = first.wrong;
            before = first.before;
          },
        ),
      )
    ]

-- ---- all met documents

module _ (H : List ℕ → List ℕ) (query : List (List ℕ × ℕ)) (numbers : List ℕ) (one : MetDocument) where
  document_exact : AreExact (document_rules H query numbers one)
  document_exact = (
    digest_exact (TermsMisfit one.doc) (TermsRoot one.doc) (terms_digest H one) one.leaf.root (IsTermsFault H one) (terms_fault H one),
    (record { breaks = not_slots query numbers one; one = one_slot query numbers one }, tt),
  )

  not_document : (refusal : Refusal) → IsFirstFault (document_rules H query numbers one) refusal → IsDocumentRight H query numbers one → ⊥
  not_document refusal fault right = not_all_hold (document_rules H query numbers one) refusal document_exact fault (right.tree, (right.slots, tt))

  one_document : (a b : Refusal) → IsFirstFault (document_rules H query numbers one) a → IsFirstFault (document_rules H query numbers one) b → a ≡ b
  one_document a b is also = one_first (document_rules H query numbers one) a b document_exact is also

  document_tried : IsDocumentRight H query numbers one ⊎ ((refusal : Refusal) × IsFirstFault (document_rules H query numbers one) refusal)
  document_tried = elim (hold_or_first (document_rules H query numbers one) (terms_tried H one, (slots_tried query numbers one, tt))) [
    | inl hold ↦ inl (record { tree = hold.0; slots = hold.1.0 })
    | inr first ↦ inr first
  ]

module _ (H : List ℕ → List ℕ) (query : List (List ℕ × ℕ)) (proof : Proof) where
  abbrev Right : MetDocument → Type 0
  Right = IsDocumentRight H query (present_numbers proof)

  abbrev Fails : MetDocument → Refusal → Type 0
  Fails one = IsFirstFault (document_rules H query (present_numbers proof) one)

  pub not_documents : (refusal : Refusal) → IsDocumentsFault H query proof refusal → AreDocumentsRight H query proof → ⊥
  not_documents refusal fault right = not_first_of Right Fails (met_documents proof) refusal (not_document H query (present_numbers proof)) fault right

  pub one_documents : (a b : Refusal) → IsDocumentsFault H query proof a → IsDocumentsFault H query proof b → a ≡ b
  one_documents a b is also =
      one_first_of Right Fails (met_documents proof) a b (not_document H query (present_numbers proof)) (one_document H query (present_numbers proof)) is also

  pub documents_tried : AreDocumentsRight H query proof ⊎ ((refusal : Refusal) × IsDocumentsFault H query proof refusal)
  documents_tried = hold_or_first_of Right Fails (met_documents proof) (document_tried H query (present_numbers proof))

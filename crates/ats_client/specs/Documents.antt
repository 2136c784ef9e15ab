-- What a TRA proof shows of the met documents, and the rules of these sections.
use Rattle.std.specs.Prelude.{◌≡◌, ◌<◌, ◌+◌, ◌∷◌, ℕ, List, [], length, map, slice_index, if◌then◌else◌, Option, Some, None}
use Rattle.std.specs.List.{All}
use Rattle.ats_tree.specs.Rebuild.{rebuilt}
use Rattle.ats_dict.specs.declared.header.Header.{Header}
use Rattle.ats_doctree.specs.declared.doc_leaf.DocLeaf.{DocLeaf}
use Rattle.ats_commit.specs.Ours.{asked_term}
use Rattle.ats_proof.specs.declared.record.Slot.{Slot}
use Rattle.ats_proof.specs.Value.{ShownTerm, TermsSection, Documents, Proof}
use Rattle.ats_proof.specs.Runs.{shown_docs, shown_term}
use Rattle.ats_refusal.specs.declared.proof.Refusal.{Refusal}
use Rattle.ats_refusal.specs.declared.proof.Refusal.TheVariants.{DocsMisfit, DocsRoot, TermsMisfit, TermsRoot, TermSlot}
use Rattle.ats_base.specs.Rules.{Group, IsFirstFault, IsFirstOf}
use Rattle.ats_client.specs.Groups.{IsOther, slot_at}
use Rattle.ats_client.specs.Slots.{Shown, ShowsTerm}

-- a met document: its number, its leaf in the documents tree, and what is shown of its terms
pub record MetDocument : Type 0 where
  pub doc : ℕ
  pub leaf : DocLeaf
  pub section : TermsSection

-- the met documents with their leaves and sections, in their order
abbrev pub documents_from : List ℕ → List DocLeaf → List TermsSection → List MetDocument
documents_from [] leaves sections = []
documents_from (id ∷ met) [] sections = []
documents_from (id ∷ met) (leaf ∷ leaves) [] = []
documents_from (id ∷ met) (leaf ∷ leaves) (section ∷ sections) =
    record { doc = id; leaf = leaf; section = section } ∷ documents_from met leaves sections

-- none if only lists are shown
abbrev pub documents_in : List ℕ → Option Documents → List MetDocument
documents_in met None = []
documents_in met (Some docs) = documents_from met docs.leaves docs.sections

abbrev pub met_documents : Proof → List MetDocument
met_documents proof = documents_in proof.met proof.docs

-- ---- the documents tree

-- the digest that the leaves of the met documents rebuild to, each at its document's number
abbrev pub docs_digest : (List ℕ → List ℕ) → Header → List ℕ → Documents → Option (List ℕ)
docs_digest H header met docs = rebuilt H header.documents (shown_docs met docs.leaves) docs.digests

-- that digest is the documents root of the header
abbrev pub AreDocsRooted : (List ℕ → List ℕ) → Header → List ℕ → Option Documents → Type 0
AreDocsRooted H header met None = Unit {0}
AreDocsRooted H header met (Some docs) = docs_digest H header met docs ≡ Some header.docs_root

abbrev pub IsDocsRootFault : (List ℕ → List ℕ) → Header → List ℕ → Option Documents → Refusal → Type 0
IsDocsRootFault H header met None refusal = ⊥
IsDocsRootFault H header met (Some docs) DocsMisfit = docs_digest H header met docs ≡ None
IsDocsRootFault H header met (Some docs) DocsRoot = IsOther (docs_digest H header met docs) header.docs_root
IsDocsRootFault H header met (Some docs) _ = ⊥

abbrev pub IsDocsTree : (List ℕ → List ℕ) → Proof → Type 0
IsDocsTree H proof = AreDocsRooted H proof.header proof.met proof.docs

abbrev pub IsDocsFault : (List ℕ → List ℕ) → Proof → Refusal → Type 0
IsDocsFault H proof refusal = IsDocsRootFault H proof.header proof.met proof.docs refusal

-- ---- the terms trees

-- the digest that the shown leaves of a document's terms rebuild to, in a tree of the size that its leaf gives
abbrev pub terms_digest : (List ℕ → List ℕ) → MetDocument → Option (List ℕ)
terms_digest H one = rebuilt H one.leaf.leaves (map shown_term one.section.leaves) one.section.digests

-- that digest is the root in the leaf
abbrev pub IsTermsTree : (List ℕ → List ℕ) → MetDocument → Type 0
IsTermsTree H one = terms_digest H one ≡ Some one.leaf.root

abbrev pub IsTermsFault : (List ℕ → List ℕ) → MetDocument → Refusal → Type 0
IsTermsFault H one (TermsMisfit doc) = (doc ≡ one.doc) × (terms_digest H one ≡ None)
IsTermsFault H one (TermsRoot doc) = (doc ≡ one.doc) × IsOther (terms_digest H one) one.leaf.root
IsTermsFault H one _ = ⊥

-- ---- the slots of a document

-- the numbers in the query of the terms whose slots say that they are present; the first slot has this number
abbrev pub present_from : ℕ → List Slot → List ℕ
present_from number [] = []
present_from number (slot ∷ slots) = if slot.present then number ∷ present_from (number + 1) slots else present_from (number + 1) slots

abbrev pub present_numbers : Proof → List ℕ
present_numbers proof = present_from 0 proof.slots

-- a shown leaf of a document's terms, by position and term
abbrev pub term_shown : ShownTerm → Shown
term_shown t = record { position = t.position; term = t.term.0 }

-- the document's slot of a present term, counted among the present terms only, shows it
abbrev pub IsTermSlotRight : List (List ℕ × ℕ) → List ℕ → TermsSection → ℕ → Type 0
IsTermSlotRight query numbers section i = ShowsTerm (map term_shown section.leaves) (asked_term query (slice_index numbers i)) (slot_at section.slots i)

abbrev pub AreTermSlotsRight : List (List ℕ × ℕ) → List ℕ → TermsSection → Type 0
AreTermSlotsRight query numbers section = (i : ℕ) → i < length numbers → IsTermSlotRight query numbers section i

-- the slot of this present term does not show it, and the slots of all present terms before it show theirs
pub record IsWrongTermSlot (query : List (List ℕ × ℕ)) (numbers : List ℕ) (section : TermsSection) (term : ℕ) : Type 0 where
  pub place : ℕ
  pub inside : place < length numbers
  pub number : term ≡ slice_index numbers place
  pub wrong : ¬ IsTermSlotRight query numbers section place
  pub before : (i : ℕ) → i < place → IsTermSlotRight query numbers section i

abbrev pub IsTermSlotsFault : List (List ℕ × ℕ) → List ℕ → MetDocument → Refusal → Type 0
IsTermSlotsFault query numbers one (TermSlot doc term) = (doc ≡ one.doc) × IsWrongTermSlot query numbers one.section term
IsTermSlotsFault query numbers one _ = ⊥

-- ---- all met documents

-- the rules of one met document: its tree first, then its slots
abbrev pub document_rules : (List ℕ → List ℕ) → List (List ℕ × ℕ) → List ℕ → MetDocument → List (Group Refusal)
document_rules H query numbers one =
    record { holds = IsTermsTree H one; fault = IsTermsFault H one }
    ∷ record { holds = AreTermSlotsRight query numbers one.section; fault = IsTermSlotsFault query numbers one }
    ∷ []

-- what is shown of the document's terms is its own tree's, and its slots show the present terms
pub record IsDocumentRight (H : List ℕ → List ℕ) (query : List (List ℕ × ℕ)) (numbers : List ℕ) (one : MetDocument) : Type 0 where
  pub tree : IsTermsTree H one
  pub slots : AreTermSlotsRight query numbers one.section

abbrev pub AreDocumentsRight : (List ℕ → List ℕ) → List (List ℕ × ℕ) → Proof → Type 0
AreDocumentsRight H query proof = All (IsDocumentRight H query (present_numbers proof)) (met_documents proof)

-- the first failure of the met documents, document by document
abbrev pub IsDocumentsFault : (List ℕ → List ℕ) → List (List ℕ × ℕ) → Proof → Refusal → Type 0
IsDocumentsFault H query proof refusal =
    IsFirstOf (IsDocumentRight H query (present_numbers proof)) (λ one. IsFirstFault (document_rules H query (present_numbers proof) one)) (met_documents proof) refusal

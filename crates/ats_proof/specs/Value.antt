-- What a proof says, and the fields that spell it.
use Rattle.std.specs.Prelude.{◌≡◌, ℕ, ◌+◌, if◌then◌else◌, List, [], ◌∷◌, ◌++◌, length, Option, Some, None}
use Rattle.std.specs.List.{All, flat_map, sum_by}
use Rattle.ats_postings.specs.declared.entry.Entry.{Entry}
use Rattle.ats_dict.specs.Entry.{DictEntry}
use Rattle.ats_dict.specs.declared.header.Header.{Header}
use Rattle.ats_doctree.specs.declared.doc_leaf.DocLeaf.{DocLeaf}
use Rattle.ats_lists.specs.declared.format.Format.{Format}
pub use Rattle.ats_lists.specs.FormatNumber.{number_of_format}
use Rattle.ats_proof.specs.declared.record.Algorithm.{Algorithm}
use Rattle.ats_proof.specs.declared.record.Algorithm.TheVariants.{Tra, Tnra}
use Rattle.ats_proof.specs.declared.record.Slot.{Slot}
use Rattle.ats_grammar.specs.Front.{Spells}
use Rattle.ats_grammar.specs.Grammar.{proof_schema}
use Rattle.ats_proof.specs.Parts.{spelled, counted}

-- a shown leaf of the dictionary
pub record ShownEntry : Type 0 where
  pub position : ℕ
  pub entry : DictEntry

-- the shown front of a list; its entries name documents by their place among the met ids
pub record Prefix : Type 0 where
  pub entries : List Entry
  pub digests : List (List ℕ)

-- a shown leaf of a document's terms: a term and its impact
pub record ShownTerm : Type 0 where
  pub position : ℕ
  pub term : List ℕ × ℕ

-- what is shown of the terms of a met document
pub record TermsSection : Type 0 where
  pub leaves : List ShownTerm
  pub digests : List (List ℕ)
  pub slots : List Slot

-- what is shown of the met documents
pub record Documents : Type 0 where
  pub leaves : List DocLeaf
  pub digests : List (List ℕ)
  pub sections : List TermsSection

-- what a proof says: the format of its archive's lists, and what is shown; only a TRA proof has documents
pub record Proof : Type 0 where
  pub format : Format
  pub header : Header
  pub dict : List ShownEntry
  pub dict_digests : List (List ℕ)
  pub slots : List Slot
  pub met : List ℕ
  pub lists : List Prefix
  pub docs : Option Documents
  pub answer : List ℕ

abbrev pub algorithm_of : Proof → Algorithm
algorithm_of proof = elim proof.docs [ None ↦ Tnra | Some docs ↦ Tra ]

-- ---- the fields

abbrev pub number_of_algorithm : Option Documents → ℕ
number_of_algorithm (Some docs) = 1
number_of_algorithm None = 2

-- the version of a proof is the number of its format
abbrev pub front_fields : Format → Option Documents → List (List ℕ)
front_fields format docs = spelled 4 0x41545350 ∷ spelled 1 (number_of_format format) ∷ spelled 1 (number_of_algorithm docs) ∷ []

-- version, documents, dictionary leaves, three roots
abbrev pub header_fields : Header → List (List ℕ)
header_fields h = spelled 1 1 ∷ spelled 4 h.documents ∷ spelled 4 h.dict_leaves ∷ h.dict_root ∷ h.docs_root ∷ h.texts_root ∷ []

-- the format of an archive's lists, and the archive's header
abbrev pub archive_fields : Format → Header → List (List ℕ)
archive_fields format header = spelled 1 (number_of_format format) ∷ header_fields header

-- position, length, term, number of documents, list root
abbrev pub entry_fields : ShownEntry → List (List ℕ)
entry_fields e = spelled 4 e.position ∷ spelled 1 (length e.entry.term) ∷ e.entry.term ∷ spelled 4 e.entry.f ∷ e.entry.root ∷ []

abbrev pub digest_fields : List ℕ → List (List ℕ)
digest_fields digest = digest ∷ []

abbrev pub kind_of_slot : Slot → ℕ
kind_of_slot slot = if slot.present then 1 else 0

abbrev pub slot_fields : Slot → List (List ℕ)
slot_fields slot = spelled 1 (kind_of_slot slot) ∷ spelled 2 slot.index ∷ []

-- a met id, or the met index of a row
abbrev pub id_fields : ℕ → List (List ℕ)
id_fields id = spelled 4 id ∷ []

abbrev pub posting_fields : Entry → List (List ℕ)
posting_fields e = spelled 4 e.doc ∷ spelled 2 e.impact ∷ []

abbrev pub prefix_fields : Prefix → List (List ℕ)
prefix_fields p = counted 4 posting_fields p.entries ++ counted 2 digest_fields p.digests

abbrev pub doc_fields : DocLeaf → List (List ℕ)
doc_fields d = spelled 4 d.leaves ∷ d.root ∷ []

-- position, length, term, impact
abbrev pub term_fields : ShownTerm → List (List ℕ)
term_fields t = spelled 4 t.position ∷ spelled 1 (length t.term.0) ∷ t.term.0 ∷ spelled 2 t.term.1 ∷ []

abbrev pub section_fields : TermsSection → List (List ℕ)
section_fields s = counted 2 term_fields s.leaves ++ counted 2 digest_fields s.digests ++ flat_map slot_fields s.slots

abbrev pub documents_fields : Option Documents → List (List ℕ)
documents_fields None = []
documents_fields (Some d) = flat_map doc_fields d.leaves ++ counted 4 digest_fields d.digests ++ flat_map section_fields d.sections

-- all fields, in the table's order
abbrev pub fields_of : Proof → List (List ℕ)
fields_of p = front_fields p.format p.docs ++ header_fields p.header ++ spelled 2 (length p.slots) ∷ []
    ++ counted 2 entry_fields p.dict ++ counted 2 digest_fields p.dict_digests
    ++ flat_map slot_fields p.slots ++ counted 4 id_fields p.met ++ flat_map prefix_fields p.lists
    ++ documents_fields p.docs ++ counted 2 id_fields p.answer

-- ---- numbers of parts that other parts determine

-- how many terms are present
abbrev pub present_in : List Slot → ℕ
present_in slots = sum_by kind_of_slot slots

-- a leaf and a section for each met id, and a slot in each section for each present term
pub record AreDocuments (met present : ℕ) (docs : Documents) : Type 0 where
  pub leaf_each : length docs.leaves ≡ met
  pub section_each : length docs.sections ≡ met
  pub slot_each : All (λ section. length section.slots ≡ present) docs.sections

abbrev pub AreDocumentsOf : Proof → Option Documents → Type 0
AreDocumentsOf proof None = Unit {0}
AreDocumentsOf proof (Some docs) = AreDocuments (length proof.met) (present_in proof.slots) docs

-- the bytes spell the proof
pub record IsProof (bytes : List ℕ) (proof : Proof) : Type 0 where
  pub spells : Spells proof_schema bytes (fields_of proof)
  pub prefix_each : length proof.lists ≡ present_in proof.slots
  pub documents : AreDocumentsOf proof proof.docs

-- some bytes spell the proof
abbrev pub IsSpelled : Proof → Type 0
IsSpelled proof = (bytes : List ℕ) × IsProof bytes proof

-- ---- how many items there are

abbrev pub items_of_prefix : Prefix → ℕ
items_of_prefix p = length p.entries + length p.digests

abbrev pub items_of_section : TermsSection → ℕ
items_of_section s = length s.leaves + length s.digests + length s.slots

abbrev pub items_of_documents : Option Documents → ℕ
items_of_documents None = 0
items_of_documents (Some d) = length d.leaves + length d.digests + sum_by items_of_section d.sections

-- digests, leaves, slots, met ids, entries and rows
abbrev pub items_of : Proof → ℕ
items_of p = length p.dict + length p.dict_digests + length p.slots + length p.met + sum_by items_of_prefix p.lists
    + items_of_documents p.docs + length p.answer

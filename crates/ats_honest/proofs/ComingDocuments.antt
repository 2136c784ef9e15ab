-- The fields of what is shown of documents are in the grammar's order.
use Rattle.std.proofs.Common.{◌≡◌, ◌+◌, ◌<◌, ◌≤◌, ◌^◌, ◌++◌, ℕ, List, [], ◌∷◌, length, Some, refl, subst, arith}
use Rattle.std.specs.List.{All, flat_map}
use Rattle.std.proofs.lemmas.List.Elements.{All-head, All-tail}
use Rattle.ats_doctree.specs.declared.doc_leaf.DocLeaf.{DocLeaf}
use Rattle.ats_proof.specs.declared.record.Slot.{Slot}
use Rattle.ats_grammar.specs.declared.fault.ShapeKind.TheVariants.{Count, Order}
use Rattle.ats_grammar.specs.Table.{Table, Bytes}
use Rattle.ats_grammar.specs.Front.{Come}
use Rattle.ats_grammar.specs.Grammar as grammar
use Rattle.ats_proof.specs.Parts.{counted, spelled}
use Rattle.ats_proof.specs.Value.{Documents, ShownTerm, TermsSection, digest_fields, doc_fields, kind_of_slot, section_fields, slot_fields, term_fields}
use Rattle.ats_honest.specs.Inner.Order.{AreInOrder, ComesIn}
use Rattle.ats_honest.proofs.Coming.{AreDigests, AreGoodSlots, come_counted, come_digests, come_join, come_number, is_number, small_kind}

-- ---- a terms section

abbrev pub AreGoodTerms : ℕ → List ShownTerm → Type 0
AreGoodTerms low [] = Unit {0}
AreGoodTerms low (t ∷ ts) = (low ≤ t.position) × (t.position ≤ 0xffff_ffff) × (length t.term.0 ≤ 64) × (t.term.1 ≤ 0xffff) × AreGoodTerms (t.position + 1) ts

come_terms : (ts : List ShownTerm) (low : ℕ) (rest : Table) → AreGoodTerms low ts → Come (flat_map term_fields ts) (grammar.term_leaves (length ts) low rest) rest
come_terms [] low rest good = refl
come_terms (t ∷ ts) low rest good =
    let following : List (List ℕ) = flat_map term_fields ts in
    let After : ℕ → Table = λ m. grammar.term_leaves (length ts) (m + 1) rest in
    come_number 3 t.position low 0xffff_ffff Order (λ m. grammar.term_length (λ size. Bytes size (grammar.any_2 (λ _. After m))))
    (spelled 1 (length t.term.0) ∷ t.term.0 ∷ spelled 2 t.term.1 ∷ following) rest good.0 good.1
    (come_number 0 (length t.term.0) 0 64 Count (λ size. Bytes size (grammar.any_2 (λ _. After t.position))) (t.term.0 ∷ spelled 2 t.term.1 ∷ following) rest (omega arith) good.2
    (refl, come_number 1 t.term.1 0 0xffff Count (λ _. After t.position) following rest (omega arith) good.3 (come_terms ts (t.position + 1) rest good.4)))

come_slots : (ss : List Slot) (low : ℕ) (rest : Table) → AreGoodSlots low ss → Come (flat_map slot_fields ss) (grammar.doc_slots (length ss) low rest) rest
come_slots [] low rest good = refl
come_slots (s ∷ ss) low rest good =
    come_number 0 (kind_of_slot s) 0 1 Count (λ _. grammar.index low (λ i. grammar.doc_slots (length ss) i rest)) (spelled 2 s.index ∷ flat_map slot_fields ss) rest
    (omega arith) (small_kind s.present)
    (come_number 1 s.index low 0xffff Order (λ i. grammar.doc_slots (length ss) i rest) (flat_map slot_fields ss) rest good.0 good.1 (come_slots ss s.index rest good.2))

pub record IsGoodSection (section : TermsSection) : Type 0 where
  pub some : 1 ≤ length section.leaves
  pub few : length section.leaves ≤ 64
  pub leaves : AreGoodTerms 0 section.leaves
  pub others : AreDigests section.digests
  pub places : AreGoodSlots 0 section.slots

pub come_section : (section : TermsSection) → IsGoodSection section → ComesIn (length section.slots) section
come_section section good rest =
    let n = length section.slots in
    let leaves : List (List ℕ) = counted 2 term_fields section.leaves in
    let digests : List (List ℕ) = counted 2 digest_fields section.digests in
    let following : Table = grammar.doc_slots n 0 rest in
    come_join (leaves ++ digests) (flat_map slot_fields section.slots) (grammar.term_section n rest) following rest
    (come_join leaves digests (grammar.term_section n rest) (grammar.term_digests n rest) following
    (come_number 1 (length section.leaves) 1 64 Count (λ m. grammar.term_leaves m 0 (grammar.term_digests n rest)) (flat_map term_fields section.leaves) (grammar.term_digests n rest) good.some good.few
    (come_terms section.leaves 0 (grammar.term_digests n rest) good.leaves))
    (come_counted section.digests following good.others))
    (come_slots section.slots 0 rest good.places)

-- ---- all of them

come_sections : (sections : List TermsSection) (n : ℕ) → All (ComesIn n) sections → Come (flat_map section_fields sections) (grammar.term_sections (length sections) n) grammar.answer
come_sections [] n all = refl
come_sections (section ∷ sections) n all =
    come_join (section_fields section) (flat_map section_fields sections) (grammar.term_sections (length (section ∷ sections)) n) (grammar.term_sections (length sections) n) grammar.answer
    (All-head (ComesIn n) section sections all (grammar.term_sections (length sections) n)) (come_sections sections n (All-tail (ComesIn n) section sections all))

pub record IsGoodLeaf (leaf : DocLeaf) : Type 0 where
  pub small : leaf.leaves < 2 ^ 32
  pub root : length leaf.root ≡ 32

come_leaves : (leaves : List DocLeaf) (rest : Table) → All IsGoodLeaf leaves → Come (flat_map doc_fields leaves) (grammar.doc_leaves (length leaves) rest) rest
come_leaves [] rest all = refl
come_leaves (leaf ∷ leaves) rest all =
    let first = All-head IsGoodLeaf leaf leaves all in
    (is_number 3 leaf.leaves 0 0xffff_ffff (omega arith) (omega (arith, first.small)), (first.root, come_leaves leaves rest (All-tail IsGoodLeaf leaf leaves all)))

pub record AreGoodDocuments (met slots : ℕ) (docs : Documents) : Type 0 where
  pub leaf_each : length docs.leaves ≡ met
  pub section_each : length docs.sections ≡ met
  pub leaves : All IsGoodLeaf docs.leaves
  pub few : length docs.digests ≤ 65536
  pub digests : All (λ d. length d ≡ 32) docs.digests
  pub sections : All (ComesIn slots) docs.sections

pub come_documents : (met slots : ℕ) (docs : Documents) → AreGoodDocuments met slots docs → AreInOrder met slots (Some docs)
come_documents met slots docs good =
    let leaves : List (List ℕ) = flat_map doc_fields docs.leaves in
    let digests : List (List ℕ) = counted 4 digest_fields docs.digests in
    let following : Table = grammar.term_sections met slots in
    let table : Table = grammar.doc_leaves met (grammar.doc_digests following) in
    come_join (leaves ++ digests) (flat_map section_fields docs.sections) table following grammar.answer
    (come_join leaves digests table (grammar.doc_digests following) following
    (subst (λ (n : ℕ). Come leaves (grammar.doc_leaves n (grammar.doc_digests following)) (grammar.doc_digests following)) good.leaf_each (come_leaves docs.leaves (grammar.doc_digests following) good.leaves))
    (come_number 3 (length docs.digests) 0 65536 Count (λ n. grammar.digests n following) (flat_map digest_fields docs.digests) following (omega arith) good.few (come_digests docs.digests following good.digests)))
    (subst (λ (n : ℕ). Come (flat_map section_fields docs.sections) (grammar.term_sections n slots) grammar.answer) good.section_each (come_sections docs.sections slots good.sections))

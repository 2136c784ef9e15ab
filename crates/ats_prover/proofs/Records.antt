-- The records of a writer are the fields of a proof, joined.
use Rattle.std.proofs.Common.{◌≡◌, ◌/◌, ◌^◌, ◌<◌, ℕ, Bool, true, false, cond, List, [], ◌∷◌, ◌++◌, length, refl, sym, ap, ap₂, ◌∙◌, arith, append_assoc, append-nil}
use Rattle.std.specs.Int.{to_be_bytes, w16, w32}
use Rattle.std.specs.List.{concat}
use Rattle.std.proofs.lemmas.List.Folds.{concat-append}
use Rattle.ats_dict.specs.Entry.{DictEntry, dict_leaf_bytes}
use Rattle.ats_dict.specs.Header.{header_bytes}
use Rattle.ats_dict.specs.declared.header.Header.{Header}
use Rattle.ats_doctree.specs.Sentinels.{leaf_bytes}
use Rattle.ats_doctree.specs.declared.doc_leaf.DocLeaf.{DocLeaf}
use Rattle.ats_lists.specs.declared.format.Format.{Format}
use Rattle.ats_proof.specs.declared.record.Algorithm.{Algorithm}
use Rattle.ats_proof.specs.declared.record.Algorithm.TheVariants.{Tra, Tnra}
use Rattle.ats_proof.specs.declared.record.Slot.{Slot}
use Rattle.ats_proof.specs.Records.{algorithm_byte, front_record, dict_leaf_record, doc_leaf_record, slot_record, entry_record, kind_byte, term_leaf_record}
use Rattle.std.specs.Prelude.{Option, Some, None}
use Rattle.ats_proof.specs.Parts.{spelled}
use Rattle.ats_proof.specs.Value.{Documents, doc_fields, front_fields, header_fields, entry_fields, number_of_algorithm, number_of_format, slot_fields, posting_fields, term_fields}
use Rattle.ats_proof.proofs.Public.{spelled_1, spelled_2, spelled_4, header_join}

pub entry_is : (p : ℕ) (e : DictEntry) → p < 2 ^ 32 → e.f < 2 ^ 32
    → dict_leaf_record p e.term e.f e.root ≡ concat (entry_fields (record { position = p; entry = e }))
unfolding dict_leaf_bytes
entry_is p e few small =
    let back : to_be_bytes w32 e.f ++ e.root ≡ spelled 4 e.f ++ (e.root ++ []) =
    ap₂ (λ (xs ys : List ℕ). xs ++ ys) (spelled_4 e.f small) (sym (append-nil e.root)) in
    let seam : (e.term ++ to_be_bytes w32 e.f) ++ e.root ≡ e.term ++ (to_be_bytes w32 e.f ++ e.root) = append_assoc e.term (to_be_bytes w32 e.f) e.root in
    let leaf : length e.term ∷ ((e.term ++ to_be_bytes w32 e.f) ++ e.root) ≡ spelled 1 (length e.term) ++ (e.term ++ (spelled 4 e.f ++ (e.root ++ []))) =
    ap₂ (λ (n : List ℕ) (xs : List ℕ). n ++ xs) (sym (spelled_1 (length e.term))) (seam ∙ ap (λ (xs : List ℕ). e.term ++ xs) back) in
    ap₂ (λ (xs ys : List ℕ). xs ++ ys) (spelled_4 p few) leaf

kind_is : (present : Bool) → kind_byte present ≡ cond present 1 0 / 1
kind_is true = refl
kind_is false = refl

pub slot_is : (slot : Slot) → slot.index < 2 ^ 16 → slot_record slot ≡ concat (slot_fields slot)
slot_is slot few = ap₂ (λ (n : ℕ) (xs : List ℕ). n ∷ xs) (kind_is slot.present) (spelled_2 slot.index few)

pub posting_is : (index impact : ℕ) → index < 2 ^ 32 → impact < 2 ^ 16
    → entry_record index impact ≡ concat (posting_fields (record { doc = index; impact = impact }))
posting_is index impact few small = ap₂ (λ (xs ys : List ℕ). xs ++ ys) (spelled_4 index few) (spelled_2 impact small)

pub doc_is : (leaf : DocLeaf) → leaf.leaves < 2 ^ 32 → doc_leaf_record leaf ≡ concat (doc_fields leaf)
doc_is leaf few = ap₂ (λ (xs ys : List ℕ). xs ++ ys) (spelled_4 leaf.leaves few) (sym (append-nil leaf.root))

pub term_is : (p : ℕ) (term : List ℕ) (impact : ℕ) → p < 2 ^ 32 → impact < 2 ^ 16 → term_leaf_record p term impact ≡ concat (term_fields (record { position = p; term = (term, impact) }))
unfolding leaf_bytes
term_is p term impact few small =
    let leaf : length term ∷ (term ++ to_be_bytes w16 impact) ≡ spelled 1 (length term) ++ (term ++ (spelled 2 impact ++ [])) =
    ap₂ (λ (n : List ℕ) (xs : List ℕ). n ++ (term ++ xs)) (sym (spelled_1 (length term))) (spelled_2 impact small ∙ sym (append-nil (spelled 2 impact))) in
    ap₂ (λ (xs ys : List ℕ). xs ++ ys) (spelled_4 p few) leaf

-- the header and the number of terms
header_is : (h : Header) (n : ℕ) → h.documents < 2 ^ 32 → h.dict_leaves < 2 ^ 32 → n < 2 ^ 16
    → header_bytes h.documents h.dict_leaves h.dict_root h.docs_root h.texts_root ++ to_be_bytes w16 n ≡ concat (header_fields h ++ spelled 2 n ∷ [])
header_is h n documents leaves few =
    ap₂ (λ (xs ys : List ℕ). xs ++ ys) (header_join h documents leaves) (spelled_2 n few ∙ sym (append-nil (spelled 2 n)))
    ∙ sym (concat-append (header_fields h) (spelled 2 n ∷ []))

-- whether the proofs of an algorithm have documents
abbrev pub IsKindOf : Algorithm → Option Documents → Type 0
IsKindOf algorithm docs = algorithm_byte algorithm ≡ number_of_algorithm docs

pub front_is : (format : Format) (algorithm : Algorithm) (docs : Option Documents) (h : Header) (n : ℕ) → IsKindOf algorithm docs → h.documents < 2 ^ 32 → h.dict_leaves < 2 ^ 32 → n < 2 ^ 16
    → front_record format algorithm h n ≡ concat (front_fields format docs ++ header_fields h ++ spelled 2 n ∷ [])
front_is format Tnra None h n kind documents leaves few =
    ap₂ (λ (version xs : List ℕ). 65 ∷ 84 ∷ 83 ∷ 80 ∷ (version ++ 2 ∷ xs)) (sym (spelled_1 (number_of_format format))) (header_is h n documents leaves few)
front_is format Tra (Some docs) h n kind documents leaves few =
    ap₂ (λ (version xs : List ℕ). 65 ∷ 84 ∷ 83 ∷ 80 ∷ (version ++ 1 ∷ xs)) (sym (spelled_1 (number_of_format format))) (header_is h n documents leaves few)
front_is format Tnra (Some docs) h n kind documents leaves few = absurd (omega (arith, kind))
front_is format Tra None h n kind documents leaves few = absurd (omega (arith, kind))

-- Bytes whose fields are a proof's spell what they say.
use Rattle.std.proofs.Common.{◌≡◌, ◌∙◌, ℕ, zero, suc, ◌+◌, ◌==◌, ◌≤◌, if◌then◌else◌, Bool, true, false, List, [], ◌∷◌, ◌++◌, length, take, drop, refl, sym, ap, subst, append_assoc, append-nil, add_assoc, zero-add, arith}
use Rattle.std.proofs.lemmas.List.Sums.{sum_by-cons}
use Rattle.std.specs.List.{AllByRecursion, concat, flat_map}
use Rattle.std.proofs.lemmas.List.Elements.{All-from_recursion}
use Rattle.ats_grammar.specs.Front.{Come, Spells, IsSpelling}
use Rattle.ats_grammar.specs.declared.fault.ShapeKind.TheVariants.{Count}
use Rattle.ats_grammar.specs.Table.{Table, End, Number}
use Rattle.ats_grammar.specs.Grammar.{proof, proof_schema, query_terms, dictionary, dict_digests, slots, met, prefixes, documents, doc_digests, term_sections, answer}
use Rattle.ats_lists.specs.declared.format.Format.TheVariants.{One, Two}
use Rattle.ats_proof.specs.declared.record.Slot.{Slot}
use Rattle.ats_proof.specs.Parts.{spelled, number_in, parts_in, counted_in, counted_size, counted}
use Rattle.ats_proof.specs.Value.{IsProof, AreDocumentsOf, digest_fields, slot_fields, id_fields, entry_fields, prefix_fields, doc_fields, section_fields, fields_of, front_fields, header_fields, documents_fields, number_of_format, number_of_algorithm, kind_of_slot, present_in}
use Rattle.ats_proof.specs.Reading.{digest_in, digest_size, slot_in, slot_size, id_in, id_size, entry_in, entry_size, prefix_in, prefix_size, doc_in, doc_size, section_in, section_size, section_slots_place, format_in, header_in, terms_in, dict_digests_place, slots_place, slots_in, met_place, met_in, lists_place, docs_place, doc_digests_place, sections_place, is_tra, answer_place, documents_in, proof_in}
use Rattle.ats_proof.specs.Inner.Told.{HasSpace}
use Rattle.ats_proof.proofs.Numbers.{AreBytes}
use Rattle.ats_proof.proofs.Standing.{Stands, HasFront, nothing, then_number, then_bytes}
use Rattle.ats_proof.proofs.Runs.{state_after, length-parts, then_run, then_counted}
use Rattle.ats_proof.proofs.PartKinds.{id_part, one_id, row_part, one_row, slot_part, one_slot, doc_part, one_doc, entry_part, one_entry}
use Rattle.ats_proof.proofs.Tables.{rows_run, ids_run, slots_run, docs_run, dict_run, prefix_part, prefixes_run, section_part, sections_run}
use Rattle.ats_proof.proofs.Sections.{then_digests, one_prefix, one_section}

abbrev pub next_slot : ℕ × ℕ → Slot → ℕ × ℕ
next_slot s slot = (slot.index, s.1 + kind_of_slot slot)

-- how many terms the slots find present
pub present_after : (xs : List Slot) (s : ℕ × ℕ) → (state_after next_slot s xs).1 ≡ s.1 + present_in xs
present_after [] s = omega arith
present_after (x ∷ xs) s = present_after xs (next_slot s x) ∙ add_assoc s.1 (kind_of_slot x) (present_in xs) ∙ ap (λ (k : ℕ). s.1 + k) (sym (sum_by-cons kind_of_slot x xs))

slots_by_recursion : (present n : ℕ) (bytes : List ℕ) → AllByRecursion (λ s. length s.slots ≡ present) (parts_in (section_size present) (section_in present) n bytes)
slots_by_recursion present zero bytes = tt
slots_by_recursion present (suc n) bytes =
    (length-parts slot_size slot_in present (drop (section_slots_place bytes) bytes), slots_by_recursion present n (drop (section_size present bytes) bytes))

-- ---- the front and the header

same_format : (n : ℕ) → 1 ≤ n → n ≤ 2 → n ≡ number_of_format (if n == 2 then Two else One)
same_format zero some few = absurd (omega (arith, some))
same_format (suc zero) some few = refl
same_format (suc (suc zero)) some few = refl
same_format (suc (suc (suc n))) some few = absurd (omega (arith, few))

same_algorithm : (n : ℕ) (bytes : List ℕ) → 1 ≤ n → n ≤ 2 → n ≡ number_of_algorithm (documents_in (n == 1) bytes)
same_algorithm zero bytes some few = absurd (omega (arith, some))
same_algorithm (suc zero) bytes some few = refl
same_algorithm (suc (suc zero)) bytes some few = refl
same_algorithm (suc (suc (suc n))) bytes some few = absurd (omega (arith, few))

abbrev FrontWith : List (List ℕ) → List ℕ → ℕ → ℕ → ℕ → ℕ → Type 0
FrontWith fields bytes magic version algorithm again =
    HasFront (spelled 4 magic ∷ spelled 1 version ∷ spelled 1 algorithm ∷ spelled 1 again ∷ spelled 4 (number_in 4 (drop 7 bytes)) ∷ spelled 4 (number_in 4 (drop 11 bytes))
    ∷ take 32 (drop 15 bytes) ∷ take 32 (drop 47 bytes) ∷ take 32 (drop 79 bytes) ∷ []) 111 (query_terms (is_tra bytes)) fields bytes

then_front : (fields : List (List ℕ)) (bytes : List ℕ) → Stands proof fields bytes
    → HasFront (front_fields (format_in bytes) (documents_in (is_tra bytes) bytes) ++ header_fields (header_in bytes)) 111 (query_terms (is_tra bytes)) fields bytes
then_front fields bytes is =
    let magic = then_number (nothing proof fields bytes is) in
    let version = then_number magic.front in
    let algorithm = then_number version.front in
    let again = then_number algorithm.front in
    let numbers = then_number (then_number again.front).front in
    let roots = then_bytes (then_bytes (then_bytes numbers.front)) in
    let m : number_in 4 bytes ≡ 0x41545350 = omega (arith, magic.range.least, magic.range.most) in
    let v : number_in 1 (drop 4 bytes) ≡ number_of_format (format_in bytes) = same_format (number_in 1 (drop 4 bytes)) version.range.least version.range.most in
    let w : number_in 1 (drop 6 bytes) ≡ 1 = omega (arith, again.range.least, again.range.most) in
    let a = same_algorithm (number_in 1 (drop 5 bytes)) bytes algorithm.range.least algorithm.range.most in
    let whole : FrontWith fields bytes (number_in 4 bytes) (number_in 1 (drop 4 bytes)) (number_in 1 (drop 5 bytes)) (number_in 1 (drop 6 bytes)) = roots in
    let first = subst (λ (n : ℕ). FrontWith fields bytes n (number_in 1 (drop 4 bytes)) (number_in 1 (drop 5 bytes)) (number_in 1 (drop 6 bytes))) m whole in
    let second = subst (λ (n : ℕ). FrontWith fields bytes 0x41545350 n (number_in 1 (drop 5 bytes)) (number_in 1 (drop 6 bytes))) v first in
    let third = subst (λ (n : ℕ). FrontWith fields bytes 0x41545350 (number_of_format (format_in bytes)) (number_in 1 (drop 5 bytes)) n) w second in
    subst (λ (n : ℕ). FrontWith fields bytes 0x41545350 (number_of_format (format_in bytes)) n 1) a third

-- ---- the dictionary section, the slots and the met ids

module _ {a fields : List (List ℕ)} {bytes : List ℕ} where
  then_dict : (tra : Bool) (n : ℕ) → HasFront a 113 (dictionary tra n) fields bytes
      → HasFront (a ++ counted 2 entry_fields (proof_in bytes).dict) (dict_digests_place bytes) (dict_digests tra n) fields bytes
  then_dict tra n is =
      let there = subst (λ (f : ℕ → Table). HasFront a 113 (Number 2 1 64 Count f) fields bytes) (λ i. λ m. dict_run m 0 (dict_digests tra n) i) is in
      then_counted entry_part entry_size entry_in entry_fields (λ _ e. e.position + 1) one_entry 0 (λ _ _. dict_digests tra n) there

  then_slots : (tra : Bool) → HasFront a (slots_place bytes) (slots tra (terms_in bytes) 0 0) fields bytes
      → HasFront (a ++ flat_map slot_fields (slots_in bytes)) (met_place bytes) (met tra (present_in (slots_in bytes))) fields bytes
  then_slots tra is =
      let there = subst (λ (t : Table). HasFront a (slots_place bytes) t fields bytes) (slots_run tra (terms_in bytes) 0 0) is in
      let run = then_run slot_part slot_size slot_in slot_fields next_slot one_slot (terms_in bytes) (0, 0) (λ s. met tra s.1) there in
      subst (λ (p : ℕ). HasFront (a ++ flat_map slot_fields (slots_in bytes)) (met_place bytes) (met tra p) fields bytes)
      (present_after (slots_in bytes) (0, 0) ∙ zero-add (present_in (slots_in bytes))) run

  then_met : (tra : Bool) (present : ℕ) → HasFront a (met_place bytes) (met tra present) fields bytes
      → HasFront (a ++ counted 4 id_fields (proof_in bytes).met) (lists_place bytes) (prefixes present (documents tra (met_in bytes) present)) fields bytes
  then_met tra present is =
      let there = subst (λ (f : ℕ → Table). HasFront a (met_place bytes) (Number 4 0 65536 Count f) fields bytes) (λ i. λ m. ids_run m 0 (prefixes present (documents tra m present)) i) is in
      then_counted id_part id_size id_in id_fields (λ _ id. id + 1) one_id 0 (λ m _. prefixes present (documents tra m present)) there

  then_lists : {rest : Table} → HasFront a (lists_place bytes) (prefixes (present_in (slots_in bytes)) rest) fields bytes
      → HasFront (a ++ flat_map prefix_fields (proof_in bytes).lists) (docs_place bytes) rest fields bytes
  then_lists {rest} is =
      let there = subst (λ (t : Table). HasFront a (lists_place bytes) t fields bytes) (prefixes_run (present_in (slots_in bytes)) rest) is in
      then_run prefix_part prefix_size prefix_in prefix_fields (λ _ _. tt) one_prefix (present_in (slots_in bytes)) tt (λ _. rest) there

  then_docs : HasFront a (docs_place bytes) (documents true (met_in bytes) (present_in (slots_in bytes))) fields bytes
      → HasFront (a ++ documents_fields (documents_in true bytes)) (answer_place true bytes) answer fields bytes
  then_docs is =
      let present = present_in (slots_in bytes) in
      let rest = term_sections (met_in bytes) present in
      let there = subst (λ (t : Table). HasFront a (docs_place bytes) t fields bytes) (docs_run (met_in bytes) (doc_digests rest)) is in
      let leaves = then_run doc_part doc_size doc_in doc_fields (λ _ _. tt) one_doc (met_in bytes) tt (λ _. doc_digests rest) there in
      let digests = then_digests rest leaves in
      let sections = then_run (section_part present) (section_size present) (section_in present) section_fields (λ _ _. tt) (one_section present) (met_in bytes) tt (λ _. answer)
      (subst (λ (t : Table). HasFront (a ++ flat_map doc_fields (parts_in doc_size doc_in (met_in bytes) (drop (docs_place bytes) bytes)) ++ counted 4 digest_fields (counted_in 4 digest_size digest_in (drop (doc_digests_place bytes) bytes)))
      (sections_place bytes) t fields bytes) (sections_run (met_in bytes) present) digests) in
      let x = flat_map doc_fields (parts_in doc_size doc_in (met_in bytes) (drop (docs_place bytes) bytes)) in
      let y = counted 4 digest_fields (counted_in 4 digest_size digest_in (drop (doc_digests_place bytes) bytes)) in
      let z = flat_map section_fields (parts_in (section_size present) (section_in present) (met_in bytes) (drop (sections_place bytes) bytes)) in
      subst (λ (xs : List (List ℕ)). HasFront xs (answer_place true bytes) answer fields bytes) (append_assoc (a ++ x) y z ∙ append_assoc a x (y ++ z) ∙ ap (λ (xs : List (List ℕ)). a ++ xs) (sym (append_assoc x y z))) sections

  then_documents : (tra : Bool) → HasFront a (docs_place bytes) (documents tra (met_in bytes) (present_in (slots_in bytes))) fields bytes
      → HasFront (a ++ documents_fields (documents_in tra bytes)) (answer_place tra bytes) answer fields bytes
  then_documents true is = then_docs is
  then_documents false is = subst (λ (xs : List (List ℕ)). HasFront xs (docs_place bytes) answer fields bytes) (sym (append-nil a)) is

  then_answer : {k : ℕ} → HasFront a k answer fields bytes → HasFront (a ++ counted 2 id_fields (counted_in 2 id_size id_in (drop k bytes))) (k + counted_size 2 id_size (drop k bytes)) End fields bytes
  then_answer {k} is =
      let there = subst (λ (f : ℕ → Table). HasFront a k (Number 2 0 1000 Count f) fields bytes) (λ i. λ m. rows_run m i) is in
      then_counted row_part id_size id_in id_fields (λ _ _. tt) one_row tt (λ _ _. End) there

-- ---- the whole

pub record IsRead (fields : List (List ℕ)) (bytes : List ℕ) : Type 0 where
  pub front : HasFront (fields_of (proof_in bytes)) (answer_place (is_tra bytes) bytes + counted_size 2 id_size (drop (answer_place (is_tra bytes) bytes) bytes)) End fields bytes
  pub docs_space : docs_place bytes ≤ length bytes

pub is_read : (fields : List (List ℕ)) (bytes : List ℕ) → Stands proof fields bytes → IsRead fields bytes
is_read fields bytes is =
    let terms = then_number (then_front fields bytes is) in
    let tra = is_tra bytes in
    let begun = subst (λ (n : ℕ). HasFront (front_fields (format_in bytes) (documents_in tra bytes) ++ header_fields (header_in bytes) ++ spelled 2 n ∷ []) 113 (dictionary tra (terms_in bytes)) fields bytes)
    (sym (length-parts slot_size slot_in (terms_in bytes) (drop (slots_place bytes) bytes))) terms.front in
    let dict = then_digests (slots tra (terms_in bytes) 0 0) (then_dict tra (terms_in bytes) begun) in
    let lists = then_lists (then_met tra (present_in (slots_in bytes)) (then_slots tra dict)) in
    record { front = then_answer (then_documents tra lists); docs_space = lists.space }

-- ---- bytes that spell a proof spell what is read from them

nothing_after : (after : List (List ℕ)) → Come after End End → after ≡ []
nothing_after [] come = refl
nothing_after (f ∷ after) come = absurd come.0

pub record IsWhole (bytes : List ℕ) : Type 0 where
  pub is : IsProof bytes (proof_in bytes)
  pub space : HasSpace bytes

pub documents_whole : (tra : Bool) (bytes : List ℕ) → AreDocumentsOf (proof_in bytes) (documents_in tra bytes)
documents_whole false bytes = tt
documents_whole true bytes =
    let n = met_in bytes in
    let present = present_in (slots_in bytes) in
    let ids = length-parts id_size id_in n (drop 4 (drop (met_place bytes) bytes)) in
    record {
      leaf_each = length-parts doc_size doc_in n (drop (docs_place bytes) bytes) ∙ sym ids;
      section_each = length-parts (section_size present) (section_in present) n (drop (sections_place bytes) bytes) ∙ sym ids;
      slot_each = All-from_recursion (λ s. length s.slots ≡ present) _ (slots_by_recursion present n (drop (sections_place bytes) bytes));
    }

pub whole : (bytes : List ℕ) → AreBytes bytes → IsSpelling proof_schema bytes → IsWhole bytes
whole bytes small spelling =
    let front = spelling.spells.whole in
    let stands : Stands proof spelling.fields bytes = record { come = front.come; join = front.parts ∙ append-nil (concat spelling.fields); small = small } in
    let read = is_read spelling.fields bytes stands in
    let same : spelling.fields ≡ fields_of (proof_in bytes) =
    read.front.split ∙ ap (λ (xs : List (List ℕ)). fields_of (proof_in bytes) ++ xs) (nothing_after read.front.after read.front.stands.come) ∙ append-nil (fields_of (proof_in bytes)) in
    record {
      is = record {
        spells = subst (Spells proof_schema bytes) same spelling.spells;
        prefix_each = length-parts prefix_size prefix_in (present_in (slots_in bytes)) (drop (lists_place bytes) bytes);
        documents = documents_whole (is_tra bytes) bytes;
      };
      space = record { few = spelling.spells.few; docs = read.docs_space; answer = read.front.space };
    }

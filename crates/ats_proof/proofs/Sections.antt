-- Prefixes and terms sections in bytes.
use Rattle.std.proofs.Common.{ℕ, ◌+◌, List, ◌++◌, drop, subst}
use Rattle.ats_grammar.specs.declared.fault.ShapeKind.TheVariants.{Count}
use Rattle.ats_grammar.specs.Table.{Table, Number}
use Rattle.ats_grammar.specs.Grammar.{digests, list_digests, term_digests, doc_slots}
use Rattle.ats_proof.specs.Parts.{counted_in, counted_size, counted}
use Rattle.ats_proof.specs.Value.{digest_fields, slot_fields, posting_fields, prefix_fields, term_fields, section_fields}
use Rattle.ats_proof.specs.Reading.{digest_in, digest_size, slot_in, slot_size, posting_in, posting_size, prefix_in, prefix_size, term_in, term_size, section_in, section_size, section_slots_place}
use Rattle.ats_proof.proofs.Standing.{Stands, HasFront}
use Rattle.ats_proof.proofs.Runs.{then_run, has_counted, then_counted}
use Rattle.ats_proof.proofs.PartKinds.{U, digest_part, one_digest, posting_part, one_posting, term_part, one_term, doc_slot_part, one_doc_slot}
use Rattle.ats_proof.proofs.Tables.{digests_run, entries_run, terms_run, doc_slots_run, prefix_part, section_part}

-- counted digests after a front
pub then_digests : {a : List (List ℕ)} {k width low high : ℕ} (rest : Table) {fields : List (List ℕ)} {bytes : List ℕ}
    → HasFront a k (Number width low high Count (λ n. digests n rest)) fields bytes
    → HasFront (a ++ counted width digest_fields (counted_in width digest_size digest_in (drop k bytes))) (k + counted_size width digest_size (drop k bytes)) rest fields bytes
then_digests {a} {k} {width} {low} {high} rest {fields} {bytes} is =
    let there = subst (λ (f : ℕ → Table). HasFront a k (Number width low high Count f) fields bytes) (λ i. λ n. digests_run n rest i) is in
    then_counted digest_part digest_size digest_in digest_fields (λ _ _. tt) one_digest tt (λ _ _. rest) there

pub one_prefix : (s : U) (k : U → Table) (fields : List (List ℕ)) (bytes : List ℕ) → Stands (prefix_part s k) fields bytes → HasFront (prefix_fields (prefix_in bytes)) (prefix_size bytes) (k tt) fields bytes
one_prefix s k fields bytes is =
    let there = subst (λ (f : ℕ → Table). Stands (Number 4 1 65536 Count f) fields bytes) (λ i. λ n. entries_run n (list_digests (k tt)) i) is in
    then_digests (k tt) (has_counted posting_part posting_size posting_in posting_fields (λ _ _. tt) one_posting 4 1 65536 Count tt (λ _ _. list_digests (k tt)) fields bytes there)

pub one_section : (present : ℕ) (s : U) (k : U → Table) (fields : List (List ℕ)) (bytes : List ℕ) → Stands (section_part present s k) fields bytes
    → HasFront (section_fields (section_in present bytes)) (section_size present bytes) (k tt) fields bytes
one_section present s k fields bytes is =
    let there = subst (λ (f : ℕ → Table). Stands (Number 2 1 64 Count f) fields bytes) (λ i. λ n. terms_run n 0 (term_digests present (k tt)) i) is in
    let a = has_counted term_part term_size term_in term_fields (λ _ t. t.position + 1) one_term 2 1 64 Count 0 (λ _ _. term_digests present (k tt)) fields bytes there in
    let b = then_digests (doc_slots present 0 (k tt)) a in
    let c = subst (λ (t : Table). HasFront (counted 2 term_fields (section_in present bytes).leaves ++ counted 2 digest_fields (section_in present bytes).digests) (section_slots_place bytes) t fields bytes) (doc_slots_run present 0 (k tt)) b in
    then_run doc_slot_part slot_size slot_in slot_fields (λ _ t. t.index) one_doc_slot present 0 (λ _. k tt) c

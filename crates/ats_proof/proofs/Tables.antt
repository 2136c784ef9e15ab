-- The grammar's runs, each as a run of its parts.
use Rattle.std.proofs.Common.{◌≡◌, ℕ, zero, suc, ◌+◌, Bool, refl, ap}
use Rattle.ats_grammar.specs.Table.{Table, End, Bytes}
use Rattle.ats_grammar.specs.Grammar.{any_2, any_4, rising, term_length, index, kind, digests, rows, doc_slots, term_leaves, term_section, term_sections, answer, doc_leaves, entries, prefix, prefixes, met_ids, slots, met, dict_leaves}
use Rattle.ats_proof.proofs.Runs.{runs}
use Rattle.ats_proof.proofs.PartKinds.{U, digest_part, id_part, row_part, posting_part, slot_part, doc_slot_part, doc_part, entry_part, term_part}

pub digests_run : (n : ℕ) (rest : Table) → digests n rest ≡ runs digest_part n tt (λ _. rest)
digests_run zero rest = refl
digests_run (suc n) rest = ap (Bytes 32) (digests_run n rest)

pub rows_run : (n : ℕ) → rows n ≡ runs row_part n tt (λ _. End)
rows_run zero = refl
rows_run (suc n) = ap (λ (t : Table). any_4 (λ _. t)) (rows_run n)

pub ids_run : (n low : ℕ) (rest : Table) → met_ids n low rest ≡ runs id_part n low (λ _. rest)
ids_run zero low rest = refl
ids_run (suc n) low rest = ap (rising low) (λ i. λ id. ids_run n (id + 1) rest i)

pub entries_run : (n : ℕ) (rest : Table) → entries n rest ≡ runs posting_part n tt (λ _. rest)
entries_run zero rest = refl
entries_run (suc n) rest = ap (λ (t : Table). any_4 (λ _. any_2 (λ _. t))) (entries_run n rest)

pub slots_run : (tra : Bool) (n low present : ℕ) → slots tra n low present ≡ runs slot_part n (low, present) (λ s. met tra s.1)
slots_run tra zero low present = refl
slots_run tra (suc n) low present = ap kind (λ i. λ k. index low (λ j. slots_run tra n j (present + k) i))

pub doc_slots_run : (n low : ℕ) (rest : Table) → doc_slots n low rest ≡ runs doc_slot_part n low (λ _. rest)
doc_slots_run zero low rest = refl
doc_slots_run (suc n) low rest = ap (λ (f : ℕ → Table). kind (λ _. index low f)) (λ i. λ j. doc_slots_run n j rest i)

pub docs_run : (n : ℕ) (rest : Table) → doc_leaves n rest ≡ runs doc_part n tt (λ _. rest)
docs_run zero rest = refl
docs_run (suc n) rest = ap (λ (t : Table). any_4 (λ _. Bytes 32 t)) (docs_run n rest)

pub dict_run : (n low : ℕ) (rest : Table) → dict_leaves n low rest ≡ runs entry_part n low (λ _. rest)
dict_run zero low rest = refl
dict_run (suc n) low rest = ap (rising low) (λ i. λ p. term_length (λ size. Bytes size (any_4 (λ _. Bytes 32 (dict_run n (p + 1) rest i)))))

pub terms_run : (n low : ℕ) (rest : Table) → term_leaves n low rest ≡ runs term_part n low (λ _. rest)
terms_run zero low rest = refl
terms_run (suc n) low rest = ap (rising low) (λ i. λ p. term_length (λ size. Bytes size (any_2 (λ _. terms_run n (p + 1) rest i))))

abbrev pub prefix_part : U → (U → Table) → Table
prefix_part s k = prefix (k tt)

pub prefixes_run : (n : ℕ) (rest : Table) → prefixes n rest ≡ runs prefix_part n tt (λ _. rest)
prefixes_run zero rest = refl
prefixes_run (suc n) rest = ap prefix (prefixes_run n rest)

abbrev pub section_part : ℕ → U → (U → Table) → Table
section_part present s k = term_section present (k tt)

pub sections_run : (n present : ℕ) → term_sections n present ≡ runs (section_part present) n tt (λ _. answer)
sections_run zero present = refl
sections_run (suc n) present = ap (term_section present) (sections_run n present)

-- Each kind of part in bytes.
use Rattle.std.proofs.Common.{◌≡◌, ℕ, zero, suc, ◌+◌, ◌==◌, ◌≤◌, if◌then◌else◌, List, [], ◌∷◌, length, take, drop, refl, sym, subst, arith}
use Rattle.std.proofs.lemmas.List.{length-take-le, length-drop}
use Rattle.ats_grammar.specs.Table.{Table, Bytes}
use Rattle.ats_grammar.specs.Grammar.{any_2, any_4, rising, term_length, index, kind}
use Rattle.ats_proof.specs.Parts.{spelled, number_in}
use Rattle.ats_proof.specs.Value.{entry_fields, digest_fields, slot_fields, id_fields, posting_fields, doc_fields, term_fields}
use Rattle.ats_proof.specs.Reading.{digest_in, entry_in, entry_size, term_length_in, slot_in, id_in, posting_in, doc_in, term_in, term_size}
use Rattle.ats_proof.proofs.Standing.{Stands, HasFront, nothing, then_bytes, then_number}

abbrev pub U : Type 0
U = Unit {0}

-- ---- a digest

abbrev pub digest_part : U → (U → Table) → Table
digest_part s k = Bytes 32 (k tt)

pub one_digest : (s : U) (k : U → Table) (fields : List (List ℕ)) (bytes : List ℕ) → Stands (digest_part s k) fields bytes → HasFront (digest_fields (digest_in bytes)) 32 (k tt) fields bytes
one_digest s k fields bytes is = then_bytes (nothing (digest_part s k) fields bytes is)

-- ---- a met id, above those before it, or a row

abbrev pub id_part : ℕ → (ℕ → Table) → Table
id_part low k = rising low (λ id. k (id + 1))

pub one_id : (low : ℕ) (k : ℕ → Table) (fields : List (List ℕ)) (bytes : List ℕ) → Stands (id_part low k) fields bytes → HasFront (id_fields (id_in bytes)) 4 (k (id_in bytes + 1)) fields bytes
one_id low k fields bytes is = (then_number (nothing (id_part low k) fields bytes is)).front

abbrev pub row_part : U → (U → Table) → Table
row_part s k = any_4 (λ _. k tt)

pub one_row : (s : U) (k : U → Table) (fields : List (List ℕ)) (bytes : List ℕ) → Stands (row_part s k) fields bytes → HasFront (id_fields (id_in bytes)) 4 (k tt) fields bytes
one_row s k fields bytes is = (then_number (nothing (row_part s k) fields bytes is)).front

-- ---- an entry

abbrev pub posting_part : U → (U → Table) → Table
posting_part s k = any_4 (λ _. any_2 (λ _. k tt))

pub one_posting : (s : U) (k : U → Table) (fields : List (List ℕ)) (bytes : List ℕ) → Stands (posting_part s k) fields bytes → HasFront (posting_fields (posting_in bytes)) 6 (k tt) fields bytes
one_posting s k fields bytes is = (then_number (then_number (nothing (posting_part s k) fields bytes is)).front).front

-- ---- a slot of the query, which may find a term present, and one of a terms section

pub one_kind : (n : ℕ) → n ≤ 1 → (if n == 1 then 1 else 0) ≡ n
one_kind zero few = refl
one_kind (suc zero) few = refl
one_kind (suc (suc n)) few = absurd (omega (arith, few))

abbrev pub slot_part : ℕ × ℕ → (ℕ × ℕ → Table) → Table
slot_part s k = kind (λ n. index s.0 (λ i. k (i, s.1 + n)))

pub one_slot : (s : ℕ × ℕ) (k : ℕ × ℕ → Table) (fields : List (List ℕ)) (bytes : List ℕ) → Stands (slot_part s k) fields bytes
    → HasFront (slot_fields (slot_in bytes)) 3 (k ((slot_in bytes).index, s.1 + (if (slot_in bytes).present then 1 else 0))) fields bytes
one_slot s k fields bytes is =
    let a = then_number (nothing (slot_part s k) fields bytes is) in
    let b = then_number a.front in
    let same = sym (one_kind (number_in 1 bytes) a.range.most) in
    subst (λ (n : ℕ). HasFront (spelled 1 n ∷ spelled 2 (number_in 2 (drop 1 bytes)) ∷ []) 3 (k (number_in 2 (drop 1 bytes), s.1 + n)) fields bytes) same b.front

abbrev pub doc_slot_part : ℕ → (ℕ → Table) → Table
doc_slot_part low k = kind (λ _. index low (λ i. k i))

pub one_doc_slot : (low : ℕ) (k : ℕ → Table) (fields : List (List ℕ)) (bytes : List ℕ) → Stands (doc_slot_part low k) fields bytes → HasFront (slot_fields (slot_in bytes)) 3 (k (slot_in bytes).index) fields bytes
one_doc_slot low k fields bytes is =
    let a = then_number (nothing (doc_slot_part low k) fields bytes is) in
    let b = then_number a.front in
    let same = sym (one_kind (number_in 1 bytes) a.range.most) in
    subst (λ (n : ℕ). HasFront (spelled 1 n ∷ spelled 2 (number_in 2 (drop 1 bytes)) ∷ []) 3 (k (number_in 2 (drop 1 bytes))) fields bytes) same b.front

-- ---- a leaf of the documents tree

abbrev pub doc_part : U → (U → Table) → Table
doc_part s k = any_4 (λ _. Bytes 32 (k tt))

pub one_doc : (s : U) (k : U → Table) (fields : List (List ℕ)) (bytes : List ℕ) → Stands (doc_part s k) fields bytes → HasFront (doc_fields (doc_in bytes)) 36 (k tt) fields bytes
one_doc s k fields bytes is = then_bytes (then_number (nothing (doc_part s k) fields bytes is)).front

-- ---- a leaf of the dictionary, and one of a document's terms

length-term : (n : ℕ) (k : ℕ) (bytes : List ℕ) → n + k ≤ length bytes → length (take k (drop n bytes)) ≡ k
length-term n k bytes space = length-take-le k (drop n bytes) (omega (arith, space, length-drop n bytes))

abbrev pub entry_part : ℕ → (ℕ → Table) → Table
entry_part low k = rising low (λ p. term_length (λ size. Bytes size (any_4 (λ _. Bytes 32 (k (p + 1))))))

pub one_entry : (low : ℕ) (k : ℕ → Table) (fields : List (List ℕ)) (bytes : List ℕ) → Stands (entry_part low k) fields bytes
    → HasFront (entry_fields (entry_in bytes)) (entry_size bytes) (k (number_in 4 bytes + 1)) fields bytes
one_entry low k fields bytes is =
    let a = then_number (nothing (entry_part low k) fields bytes is) in
    let b = then_number a.front in
    let c = then_bytes b.front in
    let d = then_number c in
    let e = then_bytes d.front in
    let same = sym (length-term 5 (term_length_in bytes) bytes (omega (arith, e.space))) in
    let size : 5 + term_length_in bytes + 4 + 32 ≡ entry_size bytes = omega arith in
    let whole = subst (λ (n : ℕ). HasFront (spelled 4 (number_in 4 bytes) ∷ spelled 1 (term_length_in bytes) ∷ (entry_in bytes).entry.term ∷ spelled 4 (entry_in bytes).entry.f ∷ (entry_in bytes).entry.root ∷ [])
    n (k (number_in 4 bytes + 1)) fields bytes) size e in
    subst (λ (n : ℕ). HasFront (spelled 4 (number_in 4 bytes) ∷ spelled 1 n ∷ (entry_in bytes).entry.term ∷ spelled 4 (entry_in bytes).entry.f ∷ (entry_in bytes).entry.root ∷ [])
    (entry_size bytes) (k (number_in 4 bytes + 1)) fields bytes) same whole

abbrev pub term_part : ℕ → (ℕ → Table) → Table
term_part low k = rising low (λ p. term_length (λ size. Bytes size (any_2 (λ _. k (p + 1)))))

pub one_term : (low : ℕ) (k : ℕ → Table) (fields : List (List ℕ)) (bytes : List ℕ) → Stands (term_part low k) fields bytes
    → HasFront (term_fields (term_in bytes)) (term_size bytes) (k (number_in 4 bytes + 1)) fields bytes
one_term low k fields bytes is =
    let a = then_number (nothing (term_part low k) fields bytes is) in
    let b = then_number a.front in
    let c = then_bytes b.front in
    let d = then_number c in
    let same = sym (length-term 5 (term_length_in bytes) bytes (omega (arith, d.front.space))) in
    subst (λ (n : ℕ). HasFront (spelled 4 (number_in 4 bytes) ∷ spelled 1 n ∷ (term_in bytes).term.0 ∷ spelled 2 (term_in bytes).term.1 ∷ [])
    (term_size bytes) (k (number_in 4 bytes + 1)) fields bytes) same d.front

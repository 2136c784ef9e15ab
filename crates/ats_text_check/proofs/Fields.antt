-- The fields of the bytes that give a text: their ranges, what they tell, and their join.
use Rattle.std.proofs.Common.{◌≡◌, ◌∙◌, ℕ, ◌^◌, ◌≤◌, List, [], ◌∷◌, ◌++◌, length, take, drop, get_or, Result, Ok, Err, refl, sym, ap, subst, append-nil, length-append, arith}
use Rattle.std.specs.Prelude.{IfOk, IfErr}
use Rattle.std.specs.List.{concat}
use Rattle.std.proofs.lemmas.List.{take_at, drop_at}
use Rattle.std.proofs.lemmas.List.Folds.{concat-append}
use Rattle.ats_grammar.specs.declared.fault.ShapeFault.{ShapeFault}
use Rattle.ats_grammar.specs.Front.{Come, Spells, IsBad}
use Rattle.ats_grammar.specs.Table.{End, spelled}
use Rattle.ats_grammar.proofs.Public.{number-spelled, no_fault, one_fault, one_spelling}
use Rattle.ats_proof.specs.Value.{archive_fields}
use Rattle.ats_proof.proofs.Public.{header_first, archive_comes, length-archive, archive_tells, last_first, last_comes, length_digests}
use Rattle.ats_text_check.specs.Grammar.{text, text_schema}
use Rattle.ats_text_check.specs.Value.{TextProof, text_fields, fields_of, IsTextProof, IsTextInRange}

-- each part of a spelled text is in its range
pub in_range : (bytes : List ℕ) (proof : TextProof) → IsTextProof bytes proof → IsTextInRange proof
in_range bytes proof is =
    let first = header_first proof.header (text_fields proof) text is.spells.whole.come.1.1 in
    let shown = last_first 32 proof.digests first.after.1.1 in
    record { header = first.range; short = omega (arith, first.after.0.2, number-spelled 3 (length proof.text)); few = shown.0; sized = shown.1 }

come-all : (proof : TextProof) → IsTextInRange proof → Come (fields_of proof) text_schema.table End
come-all proof range =
    let text_there : Come (text_fields proof) text End = (
      (refl, omega arith, omega (arith, range.short, number-spelled 3 (length proof.text))),
      (sym (number-spelled 3 (length proof.text)), last_comes 32 proof.digests range.few range.sized),
    ) in
    ((refl, omega arith, omega arith), archive_comes proof.format proof.header (text_fields proof) text End range.header text_there)

-- ---- how many bytes there are

-- the fields before the text
abbrev pub before_text : TextProof → List (List ℕ)
before_text proof = spelled 4 0x41545346 ∷ (archive_fields proof.format proof.header ++ (spelled 4 (length proof.text) ∷ []))

-- the fields after the text
abbrev pub after_text : TextProof → List (List ℕ)
after_text proof = spelled 1 (length proof.digests) ∷ proof.digests

pub length-before : (proof : TextProof) → IsTextInRange proof → length (concat (before_text proof)) ≡ 114
length-before proof range =
    let fields = archive_fields proof.format proof.header in
    let size = spelled 4 (length proof.text) ∷ [] in
    omega (arith, ap length (concat-append fields size), length-append (concat fields) (concat size), length-archive proof.format proof.header range.header)

-- the join of all fields, with the text in its middle
pub around_text : (proof : TextProof) → concat (fields_of proof) ≡ concat (before_text proof) ++ (proof.text ++ concat (after_text proof))
around_text proof = concat-append (before_text proof) (proof.text ∷ after_text proof)

few_bytes : (proof : TextProof) → IsTextInRange proof → length (concat (fields_of proof)) ≤ 2 ^ 21
few_bytes proof range =
    let before = length-before proof range in
    let digests_there = length_digests proof.digests range.sized in
    let all = ap length (around_text proof) in
    let first = length-append (concat (before_text proof)) (proof.text ++ concat (after_text proof)) in
    let second = length-append proof.text (concat (after_text proof)) in
    let short = range.short in
    let few = range.few in
    omega (arith, before, digests_there, all, first, second, short, few)

-- parts in their ranges are spelled by the join of their fields
pub spells : (proof : TextProof) → IsTextInRange proof → IsTextProof (concat (fields_of proof)) proof
spells proof range = record {
  spells = record {
    whole = record { come = come-all proof range; parts = sym (append-nil (concat (fields_of proof))) };
    few = few_bytes proof range;
  };
}

pub join_of : (bytes : List ℕ) (proof : TextProof) → IsTextProof bytes proof → bytes ≡ concat (fields_of proof)
join_of bytes proof is = is.spells.whole.parts ∙ append-nil (concat (fields_of proof))

pub one_join : (bytes others : List ℕ) (proof : TextProof) → IsTextProof bytes proof → IsTextProof others proof → bytes ≡ others
one_join bytes others proof is other = join_of bytes proof is ∙ sym (join_of others proof other)

-- the text is where it is lent from
pub lent_from : (bytes : List ℕ) (proof : TextProof) → IsTextProof bytes proof → proof.text ≡ take (length proof.text) (drop 114 bytes)
lent_from bytes proof is =
    let front = concat (before_text proof) in
    let back = concat (after_text proof) in
    let parts : bytes ≡ front ++ (proof.text ++ back) = join_of bytes proof is ∙ around_text proof in
    let there : drop 114 bytes ≡ proof.text ++ back = ap (drop 114) parts ∙ drop_at front (proof.text ++ back) 114 (length-before proof (in_range bytes proof is)) in
    sym (ap (take (length proof.text)) there ∙ take_at proof.text back (length proof.text) refl)

-- ---- bytes say one text

pub one_text : (bytes : List ℕ) (p q : TextProof) → IsTextProof bytes p → IsTextProof bytes q → p ≡ q
one_text bytes p q is other =
    let same : fields_of p ≡ fields_of q = one_spelling text_schema bytes (fields_of p) (fields_of q) is.spells other.spells in
    let archives = archive_tells p.format q.format p.header q.header (text_fields p) (text_fields q) (ap (drop 1) same) in
    let text : p.text ≡ q.text = ap (λ (fields : List (List ℕ)). get_or fields 1 []) archives.header.rest in
    let digests : p.digests ≡ q.digests = ap (drop 3) archives.header.rest in
    λ i. record { format = archives.format i; header = archives.header.value i; text = text i; digests = digests i }

-- the text has as many bytes as were read for its length
pub sized_text : (bytes : List ℕ) (proof : TextProof) (size : ℕ) → length proof.text ≡ size
    → Spells text_schema bytes (spelled 4 0x41545346 ∷ (archive_fields proof.format proof.header ++ spelled 4 size ∷ proof.text ∷ after_text proof)) → IsTextProof bytes proof
sized_text bytes proof size is spells_so =
    let Fields : ℕ → List (List ℕ) = λ n. spelled 4 0x41545346 ∷ (archive_fields proof.format proof.header ++ spelled 4 n ∷ proof.text ∷ after_text proof) in
    record { spells = subst (λ (n : ℕ). Spells text_schema bytes (Fields n)) (sym is) spells_so }

-- ---- the two outcomes of reading

pub read_ok : (bytes : List ℕ) (result : Result TextProof ShapeFault) → IfOk result (IsTextProof bytes) → IfErr result (IsBad text_schema bytes)
    → (proof : TextProof) → IsTextProof bytes proof → result ≡ Ok proof
read_ok bytes (Ok found) good bad proof is = ap Ok (one_text bytes found proof good is)
read_ok bytes (Err fault) good bad proof is = absurd (no_fault text_schema bytes fault (fields_of proof) bad is.spells)

pub read_err : (bytes : List ℕ) (result : Result TextProof ShapeFault) → IfOk result (IsTextProof bytes) → IfErr result (IsBad text_schema bytes)
    → (fault : ShapeFault) → IsBad text_schema bytes fault → result ≡ Err fault
read_err bytes (Ok found) good bad fault is = absurd (no_fault text_schema bytes fault (fields_of found) is good.spells)
read_err bytes (Err other) good bad fault is = ap Err (one_fault text_schema bytes other fault bad is)

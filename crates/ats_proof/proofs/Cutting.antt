-- A leaf cut after its term.
use Rattle.std.proofs.Common.{◌≡◌, ◌∙◌, ℕ, ◌+◌, ◌-◌, ◌<◌, List, ◌++◌, take, drop, sym, ap, ap₂, subst, arith}
use Rattle.std.specs.List.Sorted.{IsStrictlyIncreasing}
use Rattle.std.proofs.Math.Seq.{take-add}
use Rattle.std.proofs.lemmas.List.{drop-drop, drop-take, take-take}
use Rattle.ats_dict.specs.Entry.{DictEntry}
use Rattle.ats_grammar.specs.Table.{number}
use Rattle.ats_tree.specs.Shown.{positions_of}
use Rattle.ats_proof.specs.Parts.{number_in}
use Rattle.ats_proof.specs.Reading.{term_length_in, leaf_size, entry_in, term_in}
use Rattle.ats_proof.specs.Runs.{leaf_in, leaves_in}
use Rattle.ats_proof.proofs.Taking.{parts_more, increasing-tail}

pub past_term : (bytes : List ℕ) → drop (1 + term_length_in bytes) (drop 4 bytes) ≡ drop (5 + term_length_in bytes) bytes
past_term bytes = let e : 4 + (1 + term_length_in bytes) ≡ 5 + term_length_in bytes = omega arith in
    drop-drop (1 + term_length_in bytes) 4 bytes ∙ ap (λ (n : ℕ). drop n bytes) e

pub both_parts : (after_term : ℕ) (bytes : List ℕ) → take (1 + term_length_in bytes) (drop 4 bytes) ++ take after_term (drop (5 + term_length_in bytes) bytes) ≡ (leaf_in after_term bytes).1
both_parts after_term bytes =
    ap (λ (xs : List ℕ). take (1 + term_length_in bytes) (drop 4 bytes) ++ take after_term xs) (sym (past_term bytes)) ∙ sym (take-add (1 + term_length_in bytes) after_term (drop 4 bytes))

pub rest_rises : (after_term n : ℕ) (bytes : List ℕ) → 0 < n → IsStrictlyIncreasing (positions_of (leaves_in after_term n bytes))
    → IsStrictlyIncreasing (positions_of (leaves_in after_term (n - 1) (drop (leaf_size after_term bytes) bytes)))
rest_rises after_term n bytes some rises =
    increasing-tail (leaf_in after_term bytes).0 (positions_of (leaves_in after_term (n - 1) (drop (leaf_size after_term bytes) bytes)))
    (subst (λ xs. IsStrictlyIncreasing (positions_of xs)) (parts_more (leaf_size after_term) (leaf_in after_term) n bytes some) rises)

pub rest_of_leaf : (after_term : ℕ) (bytes : List ℕ) → drop after_term (drop (1 + term_length_in bytes) (drop 4 bytes)) ≡ drop (leaf_size after_term bytes) bytes
rest_of_leaf after_term bytes = ap (drop after_term) (past_term bytes) ∙ drop-drop after_term (5 + term_length_in bytes) bytes

-- the entry of a leaf of the dictionary, from its two parts
pub entry_of_parts : (bytes front back : List ℕ) → front ≡ take (1 + term_length_in bytes) (drop 4 bytes) → back ≡ take 36 (drop (5 + term_length_in bytes) bytes)
    → (let e : DictEntry = record { term = drop 1 front; f = number_in 4 back; root = take 32 (drop 4 back) } in e) ≡ (entry_in bytes).entry
entry_of_parts bytes front back front_is back_is =
    let later = drop (5 + term_length_in bytes) bytes in
    let term : drop 1 front ≡ take (term_length_in bytes) (drop 5 bytes) = ap (drop 1) front_is ∙ drop-take 1 (term_length_in bytes) (drop 4 bytes) ∙ ap (take (term_length_in bytes)) (drop-drop 1 4 bytes) in
    let f : number_in 4 back ≡ number_in 4 later = ap (number_in 4) back_is ∙ ap number (take-take 4 36 later (omega arith)) in
    let root : take 32 (drop 4 back) ≡ take 32 (drop (5 + term_length_in bytes + 4) bytes) =
    ap (λ (xs : List ℕ). take 32 (drop 4 xs)) back_is ∙ ap (take 32) (drop-take 4 32 later) ∙ take-take 32 32 (drop 4 later) (omega arith)
    ∙ ap (take 32) (drop-drop 4 (5 + term_length_in bytes) bytes) in
    ap₂ (λ (t : List ℕ) (n : ℕ). let e : DictEntry = record { term = t; f = n; root = take 32 (drop 4 back) } in e) term f
    ∙ ap (λ (r : List ℕ). let e : DictEntry = record { term = (entry_in bytes).entry.term; f = (entry_in bytes).entry.f; root = r } in e) root

-- the term and the impact of a leaf of a document's terms, from its two parts
pub term_of_parts : (bytes front back : List ℕ) → front ≡ take (1 + term_length_in bytes) (drop 4 bytes) → back ≡ take 2 (drop (5 + term_length_in bytes) bytes)
    → (let t : List ℕ × ℕ = (drop 1 front, number_in 2 back) in t) ≡ (term_in bytes).term
term_of_parts bytes front back front_is back_is =
    let later = drop (5 + term_length_in bytes) bytes in
    let term : drop 1 front ≡ take (term_length_in bytes) (drop 5 bytes) = ap (drop 1) front_is ∙ drop-take 1 (term_length_in bytes) (drop 4 bytes) ∙ ap (take (term_length_in bytes)) (drop-drop 1 4 bytes) in
    let impact : number_in 2 back ≡ number_in 2 later = ap (number_in 2) back_is ∙ ap number (take-take 2 2 later (omega arith)) in
    ap₂ (λ (t : List ℕ) (n : ℕ). let p : List ℕ × ℕ = (t, n) in p) term impact

-- The bytes of a catalog's proof, field by field.
use Rattle.std.proofs.Common.{◌≡◌, ◌∙◌, ◌+◌, ◌*◌, ◌<◌, ◌≤◌, ◌^◌, ◌++◌, ◌∷◌, ℕ, List, [], length, take, get_or, Option, Some, None, sym, ap, arith, append-nil, append_assoc, length-append}
use Rattle.std.specs.List.{All, concat}
use Rattle.std.specs.Int.{to_be_bytes, w32}
use Rattle.std.specs.Prelude.{if◌then◌else◌, nat_lt}
use Rattle.std.proofs.lemmas.Bool.Decides.{nat_tests}
use Rattle.std.proofs.lemmas.List.{take_more}
use Rattle.std.proofs.lemmas.List.Folds.{concat-append}
use Rattle.ats_grammar.specs.Table.{spelled}
use Rattle.ats_proof.specs.Written.{Written, after, writing}
use Rattle.ats_proof.proofs.Public.{length-spelled, length_digests, spelled_4}
use Rattle.ats_catalog_bytes.specs.Value.{proof_fields}
use Rattle.ats_catalog_proof.specs.Written.{front_bytes}

-- what comes before the roots
abbrev pub begun : ℕ → List ℕ
begun n = 0x41 ∷ 0x54 ∷ 0x53 ∷ 0x53 ∷ 1 ∷ to_be_bytes w32 n

pub front_begun : (roots : List (List ℕ)) → length roots ≤ 4096 → begun (length roots) ++ concat roots ≡ front_bytes roots
front_begun roots few = ap (λ (xs : List ℕ). 0x41 ∷ 0x54 ∷ 0x53 ∷ 0x53 ∷ 1 ∷ (xs ++ concat roots)) (spelled_4 (length roots) (omega (arith, few)))

pub roots_more : (roots : List (List ℕ)) (i : ℕ) (root bytes start : List ℕ) → i < length roots → root ≡ get_or roots i root
    → bytes ≡ start ++ concat (take i roots) → bytes ++ root ≡ start ++ concat (take (i + 1) roots)
roots_more roots i root bytes start low is so_far =
    let next : concat (take (i + 1) roots) ≡ concat (take i roots) ++ root =
    ap concat (take_more roots i root low) ∙ concat-append (take i roots) (get_or roots i root ∷ [])
    ∙ ap (λ (xs : List ℕ). concat (take i roots) ++ xs) (append-nil (get_or roots i root) ∙ sym is) in
    ap (λ (xs : List ℕ). xs ++ root) so_far ∙ append_assoc start (concat (take i roots)) root ∙ ap (λ (xs : List ℕ). start ++ xs) (sym next)

pub front_size : (roots : List (List ℕ)) → All (λ (root : List ℕ). length root ≡ 32) roots → length (front_bytes roots) ≡ 9 + length roots * 32
front_size roots sized = omega (arith, length_digests roots sized, length-spelled 4 (length roots), length-append (spelled 4 (length roots)) (concat roots))

-- bytes within the limit are kept
pub all_written : (bytes : List ℕ) → length bytes ≤ 2 ^ 28 → record { limit = 2 ^ 28; asked = length bytes; kept = Some bytes } ≡ writing (2 ^ 28) bytes
all_written bytes few =
    let test : (if nat_lt (2 ^ 28) (length bytes) then None else Some bytes) ≡ Some bytes = grind (arith, nat_tests) in
    ap (λ (k : Option (List ℕ)). let w : Written = record { limit = 2 ^ 28; asked = length bytes; kept = k } in w) (sym test)

-- a proof after its length
pub put_written : ((limit : ℕ) (bytes more : List ℕ) → after (writing limit bytes) more ≡ writing limit (bytes ++ more)) → (old one two : Written) (size proof bytes : List ℕ)
    → size ≡ spelled 4 (length proof) → one ≡ after old size → two ≡ after one proof → old ≡ writing (2 ^ 28) bytes
    → two ≡ writing (2 ^ 28) (bytes ++ concat (proof_fields proof))
put_written joined old one two size proof bytes is first second start =
    let spells : concat (proof_fields proof) ≡ size ++ proof =
    ap (λ (xs : List ℕ). spelled 4 (length proof) ++ xs) (append-nil proof) ∙ ap (λ (xs : List ℕ). xs ++ proof) (sym is) in
    second ∙ ap (λ (w : Written). after w proof) (first ∙ ap (λ (w : Written). after w size) start ∙ joined (2 ^ 28) bytes size)
    ∙ joined (2 ^ 28) (bytes ++ size) proof
    ∙ ap (writing (2 ^ 28)) (append_assoc bytes size proof ∙ ap (λ (xs : List ℕ). bytes ++ xs) (sym spells))

-- The header and the digests that bytes are, if they spell them.
use Rattle.std.proofs.Common.{◌≡◌, ◌∙◌, ℕ, ◌+◌, ◌*◌, ◌/◌, List, [], ◌∷◌, ◌++◌, length, take, drop, refl, sym, ap, ap₂, append_assoc, length-append, arith}
use Rattle.std.specs.List.{All, concat}
use Rattle.std.proofs.lemmas.List.{take_at, drop_at}
use Rattle.std.proofs.lemmas.List.Elements.{All-head, All-tail}
use Rattle.ats_dict.specs.Header.{IsHeader}
use Rattle.ats_dict.specs.declared.header.Header.{Header}
use Rattle.ats_grammar.specs.Table.{End}
use Rattle.ats_grammar.specs.Grammar.{header}
use Rattle.ats_grammar.specs.Front.{Come}
use Rattle.ats_grammar.specs.Position.{HeaderValue, header_fields, AreDigests}
use Rattle.ats_grammar.specs.Position as position
use Rattle.ats_proof.specs.Parts.{parts_in}
use Rattle.ats_proof.specs.Reading.{digest_size, digest_in}
use Rattle.ats_proof.specs.Inner.Reading.{header_at}
use Rattle.ats_proof.proofs.Encoded.{header_first, length_digests}
use Rattle.ats_proof.proofs.Numbers.{number-spelled}

-- these numbers and roots as a header
abbrev pub header_from : HeaderValue → Header
header_from h = record {
  documents = h.documents;
  dict_leaves = h.dict_leaves;
  dict_root = h.dict_root;
  docs_root = h.docs_root;
  texts_root = h.texts_root;
}

pub range_of_header : (h : HeaderValue) → Come (header_fields h) (header End) End → IsHeader h.documents h.dict_leaves h.dict_root h.docs_root h.texts_root
range_of_header h come = (header_first (header_from h) [] End come).range

-- three roots one after another
module _ (a b c : List ℕ) (is_a : length a ≡ 32) (is_b : length b ≡ 32) (is_c : length c ≡ 32) where
  first_root : take 32 (a ++ (b ++ (c ++ []))) ≡ a
  first_root = take_at a (b ++ (c ++ [])) 32 is_a

  second_root : take 32 (drop 32 (a ++ (b ++ (c ++ [])))) ≡ b
  second_root = ap (take 32) (drop_at a (b ++ (c ++ [])) 32 is_a) ∙ take_at b (c ++ []) 32 is_b

  both : length (a ++ b) ≡ 64
  both = length-append a b ∙ ap₂ (λ (m n : ℕ). m + n) is_a is_b

  third_root : take 32 (drop 64 (a ++ (b ++ (c ++ [])))) ≡ c
  third_root =
      ap (λ (xs : List ℕ). take 32 (drop 64 xs)) (sym (append_assoc a b (c ++ [])))
      ∙ ap (take 32) (drop_at (a ++ b) (c ++ []) 64 both) ∙ take_at c [] 32 is_c

spelled_header : (h : HeaderValue) → IsHeader h.documents h.dict_leaves h.dict_root h.docs_root h.texts_root → header_at (concat (header_fields h)) ≡ header_from h
spelled_header h is = λ i. record {
  documents = number-spelled 3 h.documents i;
  dict_leaves = number-spelled 3 h.dict_leaves i;
  dict_root = first_root h.dict_root h.docs_root h.texts_root is.dict is.docs is.texts i;
  docs_root = second_root h.dict_root h.docs_root h.texts_root is.dict is.docs is.texts i;
  texts_root = third_root h.dict_root h.docs_root h.texts_root is.dict is.docs is.texts i;
}

pub header_is : (bytes : List ℕ) (h : HeaderValue) → position.IsHeader bytes h → header_at bytes ≡ header_from h
header_is bytes h is = ap header_at is.join ∙ spelled_header h (range_of_header h is.come)

-- ---- digests

abbrev pub digests_in : ℕ → List ℕ → List (List ℕ)
digests_in n bytes = parts_in digest_size digest_in n bytes

read_digests : (all : List (List ℕ)) → All (λ d. length d ≡ 32) all → digests_in (length all) (concat all) ≡ all
read_digests [] sized = refl
read_digests (d ∷ ds) sized =
    let head : length d ≡ 32 = All-head (λ e. length e ≡ 32) d ds sized in
    let tail = read_digests ds (All-tail (λ e. length e ≡ 32) d ds sized) in
    ap₂ (λ (e : List ℕ) (es : List (List ℕ)). e ∷ es) (take_at d (concat ds) 32 head)
    (ap (digests_in (length ds)) (drop_at d (concat ds) 32 head) ∙ tail)

pub digests_are : (bytes : List ℕ) (n count : ℕ) (all : List (List ℕ)) → n ≡ length bytes / 32 → AreDigests count bytes all → digests_in n bytes ≡ all
digests_are bytes n count all is are =
    let many : length bytes ≡ length all * 32 = ap length are.join ∙ length_digests all are.sized in
    let same : n ≡ length all = omega (arith, is, many) in
    ap₂ digests_in same are.join ∙ read_digests all are.sized

-- The parts of a header.
use Rattle.std.proofs.Common.{◌≡◌, ◌<◌, ◌≤◌, ◌+◌, ◌-◌, ℕ, List, ◌∷◌, ◌++◌, length, get_or, take, drop, slice_range, refl, sym, ap, ap₂, ◌∙◌, arith, length-append, length-drop, append_assoc, take_all, inl, inr}
use Rattle.std.proofs.lemmas.Bool.{cases_lt}
use Rattle.std.proofs.lemmas.List.{take_at, drop_at, take-append-drop, drop-drop, drop_more, get_or_past}
use Rattle.std.proofs.lemmas.List.Edits.{length-between, get_or-between}
use Rattle.std.proofs.lemmas.Nat.{be_bytes_4, from_be_bytes-to_be_bytes_4}
use Rattle.std.specs.Int.{to_be_bytes, w32}
use Rattle.ats_dict.specs.Header.{header_bytes, number_at, IsHeader, HasHeader}

-- the bytes from one place on are those up to another, and those from there on
piece : (bytes : List ℕ) (from to : ℕ) → from ≤ to → drop from bytes ≡ slice_range bytes from to ++ drop to bytes
piece bytes from to up =
    let there : from + (to - from) ≡ to = omega arith in
    let rest : drop (to - from) (drop from bytes) ≡ drop to bytes = drop-drop (to - from) from bytes ∙ ap (λ n. drop n bytes) there in
    sym (take-append-drop (to - from) (drop from bytes)) ∙ ap (λ xs. slice_range bytes from to ++ xs) rest

-- four bytes are the bytes of their number
word : (bytes : List ℕ) (place : ℕ) → place + 4 ≤ length bytes → ((i : ℕ) → get_or bytes i 0 < 256)
    → to_be_bytes w32 (number_at bytes place) ≡ slice_range bytes place (place + 4)
word bytes place within small =
    let size : length (slice_range bytes place (place + 4)) ≡ 4 = omega (arith, length-between bytes place (place + 4) within) in
    let each : (i : ℕ) → get_or (slice_range bytes place (place + 4)) i 0 < 256 = λ i. elim (cases_lt i 4) [
      | inl inside ↦ rw (get_or-between bytes place (place + 4) i 0 (omega arith)) (small (place + i))
      | inr past ↦ rw (get_or_past (slice_range bytes place (place + 4)) i 0 (omega arith)) (omega arith)
    ] in
    be_bytes_4 (slice_range bytes place (place + 4)) (number_at bytes place) size each refl

regroup : (x y a b c : List ℕ) → 1 ∷ (x ++ (y ++ (a ++ (b ++ c)))) ≡ 1 ∷ x ++ y ++ a ++ b ++ c
regroup x y a b c = ap (λ xs. 1 ∷ xs) (sym (append_assoc (x ++ y ++ a) b c ∙ append_assoc (x ++ y) a (b ++ c) ∙ append_assoc x y (a ++ (b ++ c))))

-- bytes with version 1 are the header of their numbers and roots
pub joined : (bytes : List ℕ) → length bytes ≡ 105 → ((i : ℕ) → get_or bytes i 0 < 256) → get_or bytes 0 0 ≡ 1
    → bytes ≡ header_bytes (number_at bytes 1) (number_at bytes 5) (slice_range bytes 9 41) (slice_range bytes 41 73) (slice_range bytes 73 105)
unfolding header_bytes
joined bytes whole small first =
    let a = slice_range bytes 9 41 in
    let b = slice_range bytes 41 73 in
    let c = slice_range bytes 73 105 in
    let last : drop 73 bytes ≡ c = sym (take_all 32 (drop 73 bytes) (omega (arith, length-drop 73 bytes))) in
    let roots : drop 9 bytes ≡ a ++ (b ++ c) =
    piece bytes 9 41 (omega arith) ∙ ap (λ xs. a ++ xs) (piece bytes 41 73 (omega arith) ∙ ap (λ xs. b ++ xs) last) in
    let front : bytes ≡ 1 ∷ drop 1 bytes = drop_more bytes 0 0 (omega arith) ∙ ap (λ x. x ∷ drop 1 bytes) first in
    let numbers : drop 1 bytes ≡ slice_range bytes 1 5 ++ (slice_range bytes 5 9 ++ drop 9 bytes) =
    piece bytes 1 5 (omega arith) ∙ ap (λ xs. slice_range bytes 1 5 ++ xs) (piece bytes 5 9 (omega arith)) in
    front ∙ ap (λ xs. 1 ∷ xs) (numbers ∙ ap (λ xs. slice_range bytes 1 5 ++ (slice_range bytes 5 9 ++ xs)) roots)
    ∙ regroup (slice_range bytes 1 5) (slice_range bytes 5 9) a b c
    ∙ ap₂ (λ x y. 1 ∷ x ++ y ++ a ++ b ++ c) (sym (word bytes 1 (omega arith) small)) (sym (word bytes 5 (omega arith) small))

-- the parts at the places of a header
pub record AreParts (bytes : List ℕ) (documents dict_leaves : ℕ) (dict_root docs_root texts_root : List ℕ) : Type 0 where
  pub first : get_or bytes 0 0 ≡ 1
  pub counts : number_at bytes 1 ≡ documents
  pub leaves : number_at bytes 5 ≡ dict_leaves
  pub dict : slice_range bytes 9 41 ≡ dict_root
  pub docs : slice_range bytes 41 73 ≡ docs_root
  pub texts : slice_range bytes 73 105 ≡ texts_root

pub parts : (documents dict_leaves : ℕ) (a b c : List ℕ) → IsHeader documents dict_leaves a b c
    → AreParts (header_bytes documents dict_leaves a b c) documents dict_leaves a b c
unfolding header_bytes
parts documents dict_leaves a b c is = record {
  first = refl;
  counts = from_be_bytes-to_be_bytes_4 documents (omega arith);
  leaves = from_be_bytes-to_be_bytes_4 dict_leaves (omega arith);
  dict = ap (take 32) (append_assoc a b c) ∙ take_at a (b ++ c) 32 is.dict;
  docs = ap (λ xs. take 32 (drop 32 xs)) (append_assoc a b c) ∙ ap (take 32) (drop_at a (b ++ c) 32 is.dict) ∙ take_at b c 32 is.docs;
  texts = ap (take 32) (drop_at (a ++ b) c 64 (omega (arith, length-append a b))) ∙ take_all 32 c (omega arith);
}

-- a header in range is not refused
pub has : (documents dict_leaves : ℕ) (a b c : List ℕ) → IsHeader documents dict_leaves a b c → HasHeader (header_bytes documents dict_leaves a b c)
has documents dict_leaves a b c is =
    let at = parts documents dict_leaves a b c is in
    record { version = at.first; numbers = rw (at.counts, at.leaves) is.numbers }

-- a part put after the first bytes
pub one_more : (old new part front : List ℕ) (place end : ℕ) → take (place + length part) new ≡ take place old ++ part → take place old ≡ front
    → place + length part ≡ end → take end new ≡ front ++ part
one_more old new part front place end is was ends = ap (λ n. take n new) (sym ends) ∙ is ∙ ap (λ xs. xs ++ part) was

-- Numbers, archives and digests of a file: the fields of a table that they are, and the bytes that these join to.
use Rattle.std.proofs.Common.{◌≡◌, ◌∙◌, ℕ, zero, suc, ◌≤◌, ◌*◌, ◌/◌, ◌%◌, ◌^◌, ◌<◌, List, [], ◌∷◌, ◌++◌, length, refl, sym, ap, ap₂, subst, append_assoc, append-nil, length-append, arith}
use Rattle.std.specs.Int.{to_be_bytes, w16, w32}
use Rattle.std.specs.List.{All, concat}
use Rattle.std.proofs.lemmas.List.Folds.{concat-append}
use Rattle.std.proofs.Math.Nat.{mod-lt, div-lt_iff_lt-mul, pow-succ'}
use Rattle.std.proofs.lemmas.List.Elements.{All-nil, All-cons, All-head, All-tail}
use Rattle.ats_dict.specs.Header.{IsHeader, header_bytes}
use Rattle.ats_dict.specs.declared.header.Header.{Header}
use Rattle.ats_grammar.specs.Front.{Come}
use Rattle.ats_grammar.specs.Grammar.{digests, header}
use Rattle.ats_grammar.specs.Table.{Table, End, number, spelled}
use Rattle.ats_lists.specs.declared.format.Format.{Format}
use Rattle.ats_lists.specs.declared.format.Format.TheVariants.{One, Two}
use Rattle.ats_proof.specs.SharedTables.{archive, last_digests}
use Rattle.ats_proof.specs.Value.{number_of_format, header_fields, archive_fields}
use Rattle.ats_proof.proofs.Encoding.{be_2, be_4}
use Rattle.ats_proof.proofs.Numbers.{AreBytes, number-spelled}

-- ---- numbers

power_some : (k : ℕ) → 0 < 256 ^ k
power_some zero = omega arith
power_some (suc k) = let h = power_some k in omega (arith, h)

small_spelled : (k n : ℕ) → n < 256 ^ k → AreBytes (spelled k n)
small_spelled zero n few i = omega arith
small_spelled (suc k) n few zero =
    let whole : n < 256 * 256 ^ k = subst (λ (m : ℕ). n < m) (pow-succ' 256 k) few in
    (div-lt_iff_lt-mul (power_some k)).1 (omega (arith, whole))
small_spelled (suc k) n few (suc i) = small_spelled k (n % 256 ^ k) (mod-lt n (power_some k)) i

pub spelled_1 : (n : ℕ) → spelled 1 n ≡ n ∷ []
spelled_1 n = let e : n / 1 ≡ n = omega arith in ap (λ (m : ℕ). m ∷ []) e

pub spelled_2 : (n : ℕ) → n < 2 ^ 16 → to_be_bytes w16 n ≡ spelled 2 n
spelled_2 n few = ap (to_be_bytes w16) (sym (number-spelled 1 n)) ∙ be_2 (spelled 2 n) (omega arith) (small_spelled 2 n (omega (arith, few)))

pub spelled_4 : (n : ℕ) → n < 2 ^ 32 → to_be_bytes w32 n ≡ spelled 4 n
spelled_4 n few = ap (to_be_bytes w32) (sym (number-spelled 3 n)) ∙ be_4 (spelled 4 n) (omega arith) (small_spelled 4 n (omega (arith, few)))

-- ---- a header

pub header_join : (h : Header) → h.documents < 2 ^ 32 → h.dict_leaves < 2 ^ 32
    → header_bytes h.documents h.dict_leaves h.dict_root h.docs_root h.texts_root ≡ concat (header_fields h)
unfolding header_bytes
header_join h documents leaves =
    let tail : (h.dict_root ++ h.docs_root) ++ h.texts_root ≡ h.dict_root ++ (h.docs_root ++ (h.texts_root ++ [])) =
    append_assoc h.dict_root h.docs_root h.texts_root ∙ ap (λ (xs : List ℕ). h.dict_root ++ (h.docs_root ++ xs)) (sym (append-nil h.texts_root)) in
    let Front : List ℕ → List ℕ → List ℕ → List ℕ = λ (d e xs : List ℕ). 1 ∷ (d ++ (e ++ xs)) in
    ap (Front (to_be_bytes w32 h.documents) (to_be_bytes w32 h.dict_leaves)) tail
    ∙ ap₂ (λ (d e : List ℕ). Front d e (h.dict_root ++ (h.docs_root ++ (h.texts_root ++ [])))) (spelled_4 h.documents documents) (spelled_4 h.dict_leaves leaves)

-- a header that comes first is in range, and the other fields come after it
pub record IsHeaderFirst (h : Header) (more : List (List ℕ)) (rest : Table) : Type 0 where
  pub range : IsHeader h.documents h.dict_leaves h.dict_root h.docs_root h.texts_root
  pub after : Come more rest End

pub header_first : (h : Header) (more : List (List ℕ)) (rest : Table) → Come (header_fields h ++ more) (header rest) End → IsHeaderFirst h more rest
header_first h more rest come =
    let numbers = come.1 in
    record {
      range = record {
        numbers = record {
          some = omega (arith, numbers.0.1, number-spelled 3 h.documents);
          few = omega (arith, numbers.0.2, number-spelled 3 h.documents);
          sentinels = omega (arith, numbers.1.0.1, number-spelled 3 h.dict_leaves);
          terms = omega (arith, numbers.1.0.2, number-spelled 3 h.dict_leaves);
        };
        dict = numbers.1.1.0;
        docs = numbers.1.1.1.0;
        texts = numbers.1.1.1.1.0;
      };
      after = numbers.1.1.1.1.1;
    }

pub header_comes : (h : Header) (more : List (List ℕ)) (rest last : Table) → IsHeader h.documents h.dict_leaves h.dict_root h.docs_root h.texts_root
    → Come more rest last → Come (header_fields h ++ more) (header rest) last
header_comes h more rest last is come = (
  (refl, omega arith, omega arith),
  (
    (refl, omega (arith, number-spelled 3 h.documents, is.numbers.some), omega (arith, number-spelled 3 h.documents, is.numbers.few)),
    (
      (refl, omega (arith, number-spelled 3 h.dict_leaves, is.numbers.sentinels), omega (arith, number-spelled 3 h.dict_leaves, is.numbers.terms)),
      (is.dict, (is.docs, (is.texts, come))),
    ),
  ),
)

-- ---- an archive: the format of its lists, and its header

module _ (f : Format) (h : Header) (is : IsHeader h.documents h.dict_leaves h.dict_root h.docs_root h.texts_root) where
  pub archive_join : number_of_format f ∷ header_bytes h.documents h.dict_leaves h.dict_root h.docs_root h.texts_root ≡ concat (archive_fields f h)
  archive_join =
      ap₂ (λ (version xs : List ℕ). version ++ xs) (sym (spelled_1 (number_of_format f)))
      (header_join h (omega (arith, is.numbers.few)) (omega (arith, is.numbers.terms)))

  pub length-archive : length (concat (archive_fields f h)) ≡ 106
  length-archive =
      omega (arith, is.dict, is.docs, is.texts, length-append h.dict_root (h.docs_root ++ (h.texts_root ++ [])), length-append h.docs_root (h.texts_root ++ []), length-append h.texts_root [])

pub archive_comes : (f : Format) (h : Header) (more : List (List ℕ)) (rest last : Table) → IsHeader h.documents h.dict_leaves h.dict_root h.docs_root h.texts_root
    → Come more rest last → Come (archive_fields f h ++ more) (archive rest) last
archive_comes One h more rest last is come = ((refl, omega arith, omega arith), header_comes h more rest last is come)
archive_comes Two h more rest last is come = ((refl, omega arith, omega arith), header_comes h more rest last is come)

-- ---- digests

pub digests_last : (n : ℕ) (ds : List (List ℕ)) → Come ds (digests n End) End → (length ds ≡ n) × All (λ d. length d ≡ 32) ds
digests_last zero [] come = (refl, All-nil (λ d. length d ≡ 32))
digests_last zero (d ∷ ds) come = absurd come.0
digests_last (suc n) [] come = absurd (cc)
digests_last (suc n) (d ∷ ds) come =
    let rest = digests_last n ds come.1 in
    (ap suc rest.0, All-cons (λ d. length d ≡ 32) d ds come.0 rest.1)

pub digests_come : (n : ℕ) (ds : List (List ℕ)) → length ds ≡ n → All (λ d. length d ≡ 32) ds → Come ds (digests n End) End
digests_come zero [] same sized = refl
digests_come zero (d ∷ ds) same sized = absurd (omega (arith, same))
digests_come (suc n) [] same sized = absurd (omega (arith, same))
digests_come (suc n) (d ∷ ds) same sized =
    (All-head (λ d. length d ≡ 32) d ds sized, digests_come n ds (omega (arith, same)) (All-tail (λ d. length d ≡ 32) d ds sized))

pub length_digests : (all : List (List ℕ)) → All (λ d. length d ≡ 32) all → length (concat all) ≡ length all * 32
length_digests [] sized = refl
length_digests (d ∷ ds) sized =
    let head : length d ≡ 32 = All-head (λ e. length e ≡ 32) d ds sized in
    let tail = length_digests ds (All-tail (λ e. length e ≡ 32) d ds sized) in
    omega (arith, head, tail, length-append d (concat ds))

-- at most so many digests, after their number
module _ (most : ℕ) (ds : List (List ℕ)) where
  pub last_first : Come (spelled 1 (length ds) ∷ ds) (last_digests most) End → (length ds ≤ most) × All (λ d. length d ≡ 32) ds
  last_first come = (omega (arith, come.0.2, number-spelled 0 (length ds)), (digests_last (number (spelled 1 (length ds))) ds come.1).1)

  pub last_comes : length ds ≤ most → All (λ d. length d ≡ 32) ds → Come (spelled 1 (length ds) ∷ ds) (last_digests most) End
  last_comes few sized = (
    (refl, omega arith, omega (arith, few, number-spelled 0 (length ds))),
    digests_come (number (spelled 1 (length ds))) ds (sym (number-spelled 0 (length ds))) sized,
  )

-- ---- bytes that are appended

-- after the join of some fields, that of more
pub joined_more : (fs gs : List (List ℕ)) (b c xs : List ℕ) → b ≡ concat fs → c ≡ b ++ xs → xs ≡ concat gs → c ≡ concat (fs ++ gs)
joined_more fs gs b c xs before step is = step ∙ ap₂ (λ (front back : List ℕ). front ++ back) before is ∙ sym (concat-append fs gs)

-- after the join of some fields, one more
pub joined_field : (fs : List (List ℕ)) (b c x field : List ℕ) → b ≡ concat fs → c ≡ b ++ x → x ≡ field → c ≡ concat (fs ++ field ∷ [])
joined_field fs b c x field before step is = joined_more fs (field ∷ []) b c x before step (is ∙ sym (append-nil field))

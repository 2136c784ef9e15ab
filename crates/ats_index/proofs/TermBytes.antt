-- How many bytes the terms of a text have: at most 12 for each byte of the text.
use Rattle.std.proofs.Common.{◌≡◌, ◌≤◌, ◌*◌, ◌+◌, ◌-◌, ℕ, zero, suc, List, [], ◌∷◌, length, map, not, refl, sym, ap, ◌∙◌, arith, length-append}
use Rattle.std.specs.Prelude.{sum_by}
use Rattle.std.specs.List.{All, flat_map}
use Rattle.std.specs.Str.{IsUtf8, chars, chars_after, continuation_len, lead_bits}
use Rattle.std.proofs.lemmas.List.Concat.{concat_is, length-flat_map}
use Rattle.std.proofs.lemmas.List.Elements.{All-head, All-tail}
use Rattle.std.proofs.lemmas.List.Filters.{sum_by-filter_both}
use Rattle.std.proofs.lemmas.List.Sums.{sum_by-cons, sum_by-append}
use Rattle.std.proofs.lemmas.Str.{length-encode, len_utf8_bounds}
use Rattle.unicode_segmentation.specs.Segments.{has_alphanumeric}
use Rattle.unicode_segmentation.specs.Word.{words, word_bounds, is_word_break}
use Rattle.unicode_segmentation.proofs.SegmentsLemmas.{concat-segments}
use Rattle.ucd_case.specs.CaseFolding.{full_folding, or_itself, full_fold}
use Rattle.caseless.specs.Caseless.{default_case_fold}
use Rattle.caseless.proofs.CaselessLemmas.{default_case_fold-nil, default_case_fold-cons, full_folding_short}
use Rattle.ats_terms.specs.Terms.{terms, folded, is_term}
use lib.Utf8.{encode, encodes}

-- ---- folding

after_few : (n c : ℕ) (bytes : List ℕ) → length (chars_after n c bytes) ≤ length bytes + 1
after_few zero c [] = omega arith
after_few zero c (b ∷ bytes) = omega (arith, after_few (continuation_len b) (lead_bits b) bytes)
after_few (suc n) c [] = omega arith
after_few (suc n) c (b ∷ bytes) = omega (arith, after_few n (c * 64 + (b - 128)) bytes)

-- no more characters than bytes
chars_few : (bytes : List ℕ) → length (chars bytes) ≤ length bytes
unfolding chars
chars_few [] = omega arith
chars_few (b ∷ bytes) = omega (arith, after_few (continuation_len b) (lead_bits b) bytes)

itself_few : (c : ℕ) (table : List ℕ) → length table ≤ 3 → length (or_itself c table) ≤ 3
itself_few c [] few = omega arith
itself_few c (x ∷ xs) few = few

-- a character folds to three at most
folds_few : (cs : List ℕ) → length (default_case_fold cs) ≤ 3 * length cs
folds_few [] = rw default_case_fold-nil (omega arith)
folds_few (c ∷ cs) =
    let here : length (full_fold c) ≤ 3 = itself_few c (full_folding c) (full_folding_short c) in
    rw (default_case_fold-cons c cs) (omega (arith, here, length-append (full_fold c) (default_case_fold cs), folds_few cs))

-- and takes four bytes at most
encodes_few : (cs : List ℕ) → length (encodes cs) ≤ 4 * length cs
encodes_few [] = omega arith
encodes_few (c ∷ cs) = omega (arith, length-append (encode c) (encodes cs), length-encode c, (len_utf8_bounds c).1, encodes_few cs)

folded_few : (word : List ℕ) → length (folded word) ≤ 12 * length word
folded_few word = omega (arith, encodes_few (default_case_fold (chars word)), folds_few (chars word), chars_few word)

-- ---- the words of a text

all_folded : (some : List (List ℕ)) → sum_by (λ (t : List ℕ). length t) (map folded some) ≤ 12 * sum_by (λ (t : List ℕ). length t) some
all_folded [] = omega arith
all_folded (word ∷ some) =
    omega (
      arith,
      sum_by-cons (λ (t : List ℕ). length t) (folded word) (map folded some),
      sum_by-cons (λ (t : List ℕ). length t) word some,
      folded_few word,
      all_folded some,
    )

-- words are disjoint parts of their text
words_within : (text : List ℕ) → IsUtf8 text → sum_by (λ (t : List ℕ). length t) (words text) ≤ length text
words_within text utf8 =
    let whole : sum_by (λ (t : List ℕ). length t) (word_bounds text) ≡ length text =
    sym (ap length (concat_is (word_bounds text)) ∙ length-flat_map (λ (t : List ℕ). t) (word_bounds text)) ∙ ap length (concat-segments is_word_break text utf8) in
    omega (arith, whole, sum_by-filter_both has_alphanumeric (λ t. not (has_alphanumeric t)) (λ t. refl) (λ (t : List ℕ). length t) (word_bounds text))

terms_within : (text : List ℕ) → IsUtf8 text → sum_by (λ (t : List ℕ). length t) (terms text) ≤ 12 * length text
terms_within text utf8 =
    omega (
      arith,
      sum_by-filter_both is_term (λ t. not (is_term t)) (λ t. refl) (λ (t : List ℕ). length t) (map folded (words text)),
      all_folded (words text),
      words_within text utf8,
    )

-- the terms of all texts, each as often as it occurs
pub term_bytes : (texts : List (List ℕ)) → All IsUtf8 texts → sum_by (λ (t : List ℕ). length t) (flat_map terms texts) ≤ 12 * sum_by (λ (t : List ℕ). length t) texts
term_bytes [] all = omega arith
term_bytes (text ∷ texts) all =
    omega (
      arith,
      sum_by-append (λ (t : List ℕ). length t) (terms text) (flat_map terms texts),
      sum_by-cons (λ (t : List ℕ). length t) text texts,
      terms_within text (All-head IsUtf8 text texts all),
      term_bytes texts (All-tail IsUtf8 text texts all),
    )

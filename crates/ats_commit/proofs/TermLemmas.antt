-- How many terms texts have.
use Rattle.std.proofs.Common.{◌≤◌, ◌^◌, ℕ, List, [], ◌∷◌, length, map, arith}
use Rattle.std.specs.Prelude.{sum_by}
use Rattle.std.specs.List.{All}
use Rattle.std.specs.Str.{IsUtf8}
use Rattle.std.proofs.lemmas.List.{length-map}
use Rattle.std.proofs.lemmas.List.Elements.{All-head, All-tail}
use Rattle.std.proofs.lemmas.List.Sums.{length-filter, count_by-le-length, sum_by-cons}
use Rattle.unicode_segmentation.specs.Segments.{has_alphanumeric}
use Rattle.unicode_segmentation.specs.Word.{words, word_bounds, is_word_break}
use Rattle.unicode_segmentation.proofs.SegmentsLemmas.{length-segments}
use Rattle.ats_terms.specs.Terms.{terms, folded, is_term}
use Rattle.ats_impact.specs.Limits.{AreWithin}
use Rattle.ats_impact.specs.Score.{total_terms}

few_words : (text : List ℕ) → IsUtf8 text → length (words text) ≤ length text
few_words text utf8 =
    omega (
      arith,
      length-filter has_alphanumeric (word_bounds text),
      count_by-le-length has_alphanumeric (word_bounds text),
      length-segments is_word_break text utf8,
    )

-- a text has no more terms than bytes
pub few_terms : (text : List ℕ) → IsUtf8 text → length (terms text) ≤ length text
few_terms text utf8 =
    omega (
      arith,
      length-filter is_term (map folded (words text)),
      count_by-le-length is_term (map folded (words text)),
      length-map (words text) folded,
      few_words text utf8,
    )

few_in_all : (texts : List (List ℕ)) → All IsUtf8 texts → total_terms texts ≤ sum_by length texts
few_in_all [] all = omega arith
few_in_all (text ∷ texts) all =
    omega (
      arith,
      sum_by-cons (λ (t : List ℕ). length (terms t)) text texts,
      sum_by-cons (λ (t : List ℕ). length t) text texts,
      few_terms text (All-head IsUtf8 text texts all),
      few_in_all texts (All-tail IsUtf8 text texts all),
    )

-- and texts within the limits no more than 2 ^ 24
pub few_within : (texts : List (List ℕ)) → All IsUtf8 texts → AreWithin texts → total_terms texts ≤ 2 ^ 24
few_within texts all within = omega (arith, few_in_all texts all, within.small)

-- The digits of a root spell it as a word.
use Rattle.std.proofs.Common.{◌≡◌, ◌<◌, ◌/◌, ◌%◌, ℕ, suc, List, [], ◌∷◌, length, slice_index, false, Some, refl, arith}
use Rattle.std.specs.List.{list_any}
use Rattle.std.specs.Char.{is_ascii_uppercase}
use Rattle.hex.specs.Hex.{IsBytes, encode_with, encode_lower, lower_digits}
use Rattle.hex.proofs.HexLemmas.{length-encode_with, decode_pairs-encode_with, IsDigits-lower_digits}
use Rattle.ats_console.specs.Words.{root_word}

-- no digit of the table is an upper-case letter
digit_is_lower : (d : ℕ) → d < 16 → is_ascii_uppercase (slice_index lower_digits d) ≡ false
digit_is_lower d small = grind (arith)

digits_are_lower : (xs : List ℕ) → IsBytes xs → list_any is_ascii_uppercase (encode_lower xs) ≡ false
unfolding encode_with
digits_are_lower [] bytes = refl
digits_are_lower (b ∷ rest) bytes =
    let fits : b < 256 = bytes 0 in
    let high = digit_is_lower (b / 16) (omega arith) in
    let low = digit_is_lower (b % 16) (omega arith) in
    rw (high, low) (digits_are_lower rest (λ k. bytes (suc k)))

pub digits_spell_roots : (root : List ℕ) → length root ≡ 32 → IsBytes root → root_word (encode_lower root) ≡ Some root
digits_spell_roots root size bytes = grind (arith, digits_are_lower root bytes, length-encode_with lower_digits root, decode_pairs-encode_with lower_digits IsDigits-lower_digits 0 root bytes)

-- Fields at the front of bytes.
use Rattle.std.proofs.Common.{◌≡◌, ◌-◌, ◌<◌, ◌^◌, ℕ, List, ◌++◌, length, get_or, take, drop, ap, ◌∙◌, arith, take_all, length-drop}
use Rattle.std.specs.Int.{to_be_bytes, w32}
use Rattle.std.proofs.Math.Seq.{take-append_seam, drop-append_seam}
use Rattle.byteorder.specs.Endian.{big_number}
use Rattle.byteorder.specs.Numbers.{big_number-reads_back}
use Rattle.ats_lists.specs.declared.format.Format.{Format}
use Rattle.ats_lists.specs.FormatNumber.{number_of_format}
use Rattle.ats_index.specs.Spelling.{front_bytes, text_bytes}

-- the range from a place to the end
pub to_end : (k : ℕ) (bytes : List ℕ) → take (length bytes - k) (drop k bytes) ≡ drop k bytes
to_end k bytes = take_all (length bytes - k) (drop k bytes) (omega (arith, length-drop k bytes))

module _ (bytes : List ℕ) (format : Format) (documents : ℕ) (rest : List ℕ) (few : documents < 2 ^ 32) (is : bytes ≡ front_bytes format documents ++ rest) where
  pub front_following : drop 5 bytes ≡ to_be_bytes w32 documents ++ rest
  unfolding front_bytes
  front_following = ap (drop 5) is

  pub front_version : get_or bytes 4 0 ≡ number_of_format format
  unfolding front_bytes
  front_version = ap (λ (all : List ℕ). get_or all 4 0) is

  pub front_number : big_number 4 (drop 5 bytes) ≡ documents
  front_number = ap (big_number 4) front_following ∙ big_number-reads_back 4 documents rest few

  pub front_rest : drop 4 (drop 5 bytes) ≡ rest
  front_rest = ap (drop 4) front_following

module _ (bytes text rest : List ℕ) (short : length text < 2 ^ 32) (is : bytes ≡ text_bytes text ++ rest) where
  joined : bytes ≡ to_be_bytes w32 (length text) ++ (text ++ rest)
  unfolding text_bytes
  joined = is

  pub text_number : big_number 4 bytes ≡ length text
  text_number = ap (big_number 4) joined ∙ big_number-reads_back 4 (length text) (text ++ rest) short

  text_following : drop 4 bytes ≡ text ++ rest
  text_following = ap (drop 4) joined

  pub text_first : take (length text) (drop 4 bytes) ≡ text
  text_first = ap (take (length text)) text_following ∙ take-append_seam text rest

  pub text_rest : drop (length text) (drop 4 bytes) ≡ rest
  text_rest = ap (drop (length text)) text_following ∙ drop-append_seam text rest

-- Texts that are read one after another, up to a bad field or to the last.
use Rattle.std.proofs.Common.{◌≡◌, ◌≢◌, ◌+◌, ◌-◌, ◌∙◌, ℕ, List, [], ◌∷◌, ◌++◌, length, drop, sym, ap, arith, append_assoc, length-append}
use Rattle.std.specs.Prelude.{codes}
use Rattle.std.specs.Int.{to_be_bytes, w32}
use Rattle.std.specs.List.{flat_map}
use Rattle.std.specs.Str.{IsUtf8}
use Rattle.std.proofs.lemmas.List.{flat_map_more}
use Rattle.ats_lists.specs.declared.format.Format.{Format}
use Rattle.ats_lists.specs.FormatNumber.{number_of_format}
use Rattle.ats_index.specs.Spelling.{front_bytes, text_bytes}
use Rattle.ats_index.specs.FirstPart.{TextLength, TextBytes, HasSpaceFor, AreFirst, IsFirstBad}

-- the magic, the version and the number of texts
pub front_stands : (bytes versioned counted rest : List ℕ) (format : Format) (documents : ℕ) → bytes ≡ codes "ATSI" ++ versioned → versioned ≡ number_of_format format ∷ counted
    → counted ≡ to_be_bytes w32 documents ++ rest → bytes ≡ front_bytes format documents ++ rest
unfolding front_bytes
front_stands bytes versioned counted rest format documents magic version number =
    magic ∙ ap (λ xs. codes "ATSI" ++ xs) (version ∙ ap (λ xs. number_of_format format ∷ xs) number)

module _ (bytes : List ℕ) (format : Format) (documents : ℕ) (texts : List (List ℕ)) (rest : List ℕ)
    (is : bytes ≡ (front_bytes format documents ++ flat_map text_bytes texts) ++ rest) where
  place : length (front_bytes format documents ++ flat_map text_bytes texts) + length rest ≡ length bytes
  place = sym (ap (λ (xs : List ℕ). length xs) is ∙ length-append (front_bytes format documents ++ flat_map text_bytes texts) rest)

  -- no good length follows
  pub length_bad : AreFirst documents texts → ((size : ℕ) (more : List ℕ) → HasSpaceFor texts size → rest ≢ to_be_bytes w32 size ++ more)
      → IsFirstBad bytes (length bytes - length rest)
  length_bad first none = record {
    field = TextLength format documents texts;
    following = rest;
    reached = first;
    place = omega (arith, place);
    same = is;
    bad = λ good more (size, space, good_is) same. none size more space (same ∙ ap (λ xs. xs ++ more) good_is);
  }

  -- no good text of this length follows
  pub bytes_bad : (size : ℕ) → AreFirst documents texts → HasSpaceFor texts size → rest ≡ to_be_bytes w32 size ++ drop 4 rest
      → ((text more : List ℕ) → length text ≡ size → IsUtf8 text → drop 4 rest ≢ text ++ more)
      → IsFirstBad bytes (length bytes - length rest + 4)
  bytes_bad size first space next none = record {
    field = TextBytes format documents texts size;
    following = drop 4 rest;
    reached = (first, space);
    place = omega (arith, place, length-append (front_bytes format documents ++ flat_map text_bytes texts) (to_be_bytes w32 size));
    same = is ∙ ap (λ xs. (front_bytes format documents ++ flat_map text_bytes texts) ++ xs) next
        ∙ sym (append_assoc (front_bytes format documents ++ flat_map text_bytes texts) (to_be_bytes w32 size) (drop 4 rest));
    bad = λ text more good same. none text more good.0 good.1 same;
  }

  -- one text more is read
  pub text_read : (size : ℕ) (text following : List ℕ) → length text ≡ size → rest ≡ to_be_bytes w32 size ++ drop 4 rest → drop 4 rest ≡ text ++ following
      → bytes ≡ (front_bytes format documents ++ flat_map text_bytes (texts ++ text ∷ [])) ++ following
  unfolding text_bytes
  text_read size text following long next found =
      let front : List ℕ = front_bytes format documents ++ flat_map text_bytes texts in
      let head : rest ≡ text_bytes text ++ following =
      next ∙ ap (λ xs. to_be_bytes w32 size ++ xs) found ∙ ap (λ n. to_be_bytes w32 n ++ (text ++ following)) (sym long)
      ∙ sym (append_assoc (to_be_bytes w32 (length text)) text following) in
      is ∙ ap (λ xs. front ++ xs) head ∙ sym (append_assoc front (text_bytes text) following)
      ∙ ap (λ xs. xs ++ following) (flat_map_more text_bytes (front_bytes format documents) texts text)

-- Index bytes determine one archive.
use Rattle.std.proofs.Common.{◌≡◌, ◌<◌, ◌≤◌, ◌^◌, ◌∙◌, ℕ, List, [], ◌∷◌, ◌++◌, length, take, drop, refl, sym, ap, ap₂, arith, append_assoc}
use Rattle.std.specs.List.{flat_map}
use Rattle.std.proofs.lemmas.List.Elements.{All-tail}
use Rattle.ats_impact.specs.Limits.{AllShort, AreWithin}
use Rattle.ats_postings.specs.Lists.{lists_of}
use Rattle.ats_lists.specs.declared.format.Format.{Format}
use Rattle.ats_lists.specs.declared.format.Format.TheVariants.{One, Two}
use Rattle.ats_commit.specs.Archive.{Archive}
use Rattle.ats_commit.specs.Root.{root_of}
use Rattle.ats_index.specs.Parts.{archive_in}
use Rattle.ats_lists.specs.FormatNumber.{number_of_format}
use Rattle.ats_index.specs.Spelling.{IsSpelling, front_bytes, text_bytes, lists_bytes}
use Rattle.ats_index.specs.LoadFaults.{BeginWith}
use Rattle.ats_index.proofs.Reading.{front_number, front_rest, front_version, text_number, text_first, text_rest}
use Rattle.ats_index.proofs.Loading.{texts_first}

-- bytes that begin with a text determine it, and the bytes after it
pub text_tells : (bytes text other a b : List ℕ) → length text < 2 ^ 32 → length other < 2 ^ 32
    → bytes ≡ text_bytes text ++ a → bytes ≡ text_bytes other ++ b → (text ≡ other) × (a ≡ b)
text_tells bytes text other a b short short' is is' =
    let size : length text ≡ length other = sym (text_number bytes text a short is) ∙ text_number bytes other b short' is' in (
      sym (text_first bytes text a short is) ∙ ap (λ n. take n (drop 4 bytes)) size ∙ text_first bytes other b short' is',
      sym (text_rest bytes text a short is) ∙ ap (λ n. drop n (drop 4 bytes)) size ∙ text_rest bytes other b short' is',
    )

-- bytes that begin with a number of short texts determine them
texts_tell : (texts others : List (List ℕ)) (a b : List ℕ) → length texts ≡ length others → AllShort texts → AllShort others
    → flat_map text_bytes texts ++ a ≡ flat_map text_bytes others ++ b → texts ≡ others
texts_tell [] [] a b count short short' same = refl
texts_tell [] (other ∷ others) a b count short short' same = absurd (omega (arith, count))
texts_tell (text ∷ texts) [] a b count short short' same = absurd (omega (arith, count))
texts_tell (text ∷ texts) (other ∷ others) a b count short short' same =
    let Short : List ℕ → Type 0 = λ some. length some ≤ 2 ^ 20 in
    let following : List ℕ = flat_map text_bytes texts ++ a in
    let following' : List ℕ = flat_map text_bytes others ++ b in
    let joined : text_bytes text ++ following ≡ text_bytes other ++ following' =
    sym (append_assoc (text_bytes text) (flat_map text_bytes texts) a) ∙ same ∙ append_assoc (text_bytes other) (flat_map text_bytes others) b in
    let head = text_tells (text_bytes text ++ following) text other following following' (omega (arith, short 0 [] (omega arith))) (omega (arith, short' 0 [] (omega arith))) refl joined in
    ap₂ (λ one more. one ∷ more) head.0 (texts_tell texts others a b (omega (arith, count)) (All-tail Short text texts short) (All-tail Short other others short') head.1)

-- the bytes after the texts
abbrev following_texts : (List ℕ → List ℕ) → Archive → List ℕ
following_texts H archive = lists_bytes (lists_of archive.texts) ++ root_of H archive

-- the bytes of an index begin with its texts
pub spelled_begins : (H : List ℕ → List ℕ) (bytes : List ℕ) (archive : Archive) → IsSpelling H bytes archive → BeginWith bytes archive.format archive.texts
spelled_begins H bytes archive spelling = record {
  utf8 = spelling.utf8;
  within = spelling.within;
  rest = following_texts H archive;
  same = spelling.same ∙ texts_first H archive;
}

-- a collection's number of texts fits in 4 bytes
count_small : (texts : List (List ℕ)) → AreWithin texts → length texts < 2 ^ 32
count_small texts within = omega (arith, within.few)

-- the front, the texts, and the bytes after them
pub front_first : (bytes : List ℕ) (format : Format) (texts : List (List ℕ)) (begins : BeginWith bytes format texts)
    → bytes ≡ front_bytes format (length texts) ++ (flat_map text_bytes texts ++ begins.rest)
front_first bytes format texts begins = begins.same ∙ append_assoc (front_bytes format (length texts)) (flat_map text_bytes texts) begins.rest

-- formats with the same version are the same
pub one_format : (format other : Format) → number_of_format format ≡ number_of_format other → format ≡ other
one_format One One same = refl
one_format One Two same = absurd (omega (arith, same))
one_format Two One same = absurd (omega (arith, same))
one_format Two Two same = refl

-- bytes begin with one archive at most
pub one_beginning : (bytes : List ℕ) (format format' : Format) (texts others : List (List ℕ)) → BeginWith bytes format texts → BeginWith bytes format' others
    → archive_in format texts ≡ archive_in format' others
one_beginning bytes format format' texts others first second =
    let rest : List ℕ = flat_map text_bytes texts ++ first.rest in
    let rest' : List ℕ = flat_map text_bytes others ++ second.rest in
    let few = count_small texts first.within in
    let few' = count_small others second.within in
    let is = front_first bytes format texts first in
    let is' = front_first bytes format' others second in
    let count : length texts ≡ length others =
    sym (front_number bytes format (length texts) rest few is) ∙ front_number bytes format' (length others) rest' few' is' in
    let same : rest ≡ rest' = sym (front_rest bytes format (length texts) rest few is) ∙ front_rest bytes format' (length others) rest' few' is' in
    let version : number_of_format format ≡ number_of_format format' =
    sym (front_version bytes format (length texts) rest few is) ∙ front_version bytes format' (length others) rest' few' is' in
    ap₂ archive_in (one_format format format' version)
    (texts_tell texts others first.rest second.rest count first.within.short second.within.short same)

-- no two archives have the same index bytes
pub one_archive : (H : List ℕ → List ℕ) (bytes : List ℕ) (archive other : Archive) → IsSpelling H bytes archive → IsSpelling H bytes other → archive ≡ other
one_archive H bytes archive other first second =
    one_beginning bytes archive.format other.format archive.texts other.texts (spelled_begins H bytes archive first) (spelled_begins H bytes other second)

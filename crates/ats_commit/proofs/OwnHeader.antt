-- A header with the bytes of an archive's own has the archive's numbers and roots.
use Rattle.std.proofs.Common.{◌≡◌, ◌∙◌, ℕ, List, ◌∷◌, length, refl, sym, subst, arith}
use Rattle.std.proofs.lemmas.Slice.Eq.{bytes_eq-Decides}
use Rattle.ats_tree.specs.Tree.{mth}
use Rattle.ats_dict.specs.Dictionary.{dict_leaves}
use Rattle.ats_dict.specs.Header.{header_bytes, IsHeader}
use Rattle.ats_dict.specs.declared.header.Header.{Header}
use Rattle.ats_dict.proofs.Public.{AreParts, parts}
use Rattle.ats_lists.specs.declared.format.Format.{Format}
use Rattle.ats_lists.specs.declared.format.Format.TheVariants.{One, Two}
use Rattle.ats_commit.specs.Archive.{Archive, header_tag}
use Rattle.ats_commit.specs.Trees.{dictionary_of, documents_of}
use Rattle.ats_commit.specs.Root.{header_of, header_string}
use Rattle.ats_commit.specs.Inner.Root.{own_header_string, HasOwnHeader}
use Rattle.ats_commit.specs.Own.{AreTexts, IsHeaderOf}
use Rattle.ats_commit.proofs.HeaderLemmas.{header_in_range}
use Rattle.ats_commit.proofs.TermLemmas.{few_within}

-- each format has a tag of its own
pub same_format : (a b : Format) → header_tag a ≡ header_tag b → a ≡ b
same_format One One same = refl
same_format One Two same = absurd (omega arith)
same_format Two One same = absurd (omega arith)
same_format Two Two same = refl

-- both headers are in range, so that equal bytes have equal parts
pub own_header : (H : List ℕ → List ℕ) → ((bytes : List ℕ) → length (H bytes) ≡ 32) → (archive : Archive) (header : Header) → AreTexts archive.texts
    → IsHeader header.documents header.dict_leaves header.dict_root header.docs_root header.texts_root
    → header_bytes header.documents header.dict_leaves header.dict_root header.docs_root header.texts_root ≡ header_of H archive
    → IsHeaderOf H archive header
own_header H sized archive header are is same =
    let n : ℕ = length archive.texts in
    let leaves : List (List ℕ) = dict_leaves (dictionary_of H archive) in
    let a : List ℕ = mth H leaves in
    let b : List ℕ = mth H (documents_of H archive.texts) in
    let c : List ℕ = mth H archive.texts in
    let here = parts header.documents header.dict_leaves header.dict_root header.docs_root header.texts_root is in
    let own : AreParts (header_of H archive) n (length leaves) a b c =
    parts n (length leaves) a b c (header_in_range H sized archive are.within (few_within archive.texts are.utf8 are.within)) in
    let there : AreParts (header_bytes header.documents header.dict_leaves header.dict_root header.docs_root header.texts_root) n (length leaves) a b c =
    subst (λ (bytes : List ℕ). AreParts bytes n (length leaves) a b c) (sym same) own in
    record {
      number = sym here.counts ∙ there.counts;
      leaves = sym here.leaves ∙ there.leaves;
      dictionary = sym here.dict ∙ there.dict;
      all = sym here.docs ∙ there.docs;
      raw = sym here.texts ∙ there.texts;
    }

-- equal strings have the same tag and the same bytes after it
pub tag_same : (x y : ℕ) (xs ys : List ℕ) → x ∷ xs ≡ y ∷ ys → y ≡ x
tag_same x y xs ys same = cc

pub rest_same : (x y : ℕ) (xs ys : List ℕ) → x ∷ xs ≡ y ∷ ys → ys ≡ xs
rest_same x y xs ys same = cc

-- a header with the string of the archive's own has the archive's numbers and roots
pub own_numbers : (H : List ℕ → List ℕ) → ((bytes : List ℕ) → length (H bytes) ≡ 32) → (archive : Archive) (format : Format) (header : Header) → AreTexts archive.texts
    → IsHeader header.documents header.dict_leaves header.dict_root header.docs_root header.texts_root
    → HasOwnHeader H archive format header → IsHeaderOf H archive header
own_numbers H sized archive format header are is equal =
    let bytes : List ℕ = header_bytes header.documents header.dict_leaves header.dict_root header.docs_root header.texts_root in
    let same : own_header_string H archive ≡ header_string format header = (bytes_eq-Decides (own_header_string H archive) (header_string format header)).0 equal in
    own_header H sized archive header are is (rest_same (header_tag archive.format) (header_tag format) (header_of H archive) bytes same)

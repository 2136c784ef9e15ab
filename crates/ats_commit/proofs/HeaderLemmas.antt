-- The parts of an archive's header.
use Rattle.std.proofs.Common.{◌≡◌, ◌+◌, ◌≤◌, ◌^◌, ℕ, List, [], ◌∷◌, ◌++◌, length, ap, arith, length-append}
use Rattle.std.specs.Int.{to_be_bytes, w32}
use Rattle.ats_tree.specs.Tree.{Tree, empty, leaf, node, tree_of, digest_of, mth}
use Rattle.ats_impact.specs.Limits.{AreWithin}
use Rattle.ats_impact.specs.Score.{total_terms}
use Rattle.ats_postings.specs.Lists.{vocabulary}
use Rattle.ats_postings.proofs.Public.{vocabulary_few}
use Rattle.ats_dict.specs.Dictionary.{dict_leaves}
use Rattle.ats_dict.specs.Header.{header_bytes}
use Rattle.ats_commit.specs.Archive.{Archive}
use Rattle.ats_commit.specs.Trees.{dictionary_of, documents_of}
use Rattle.ats_commit.specs.Root.{header_of, HasHeaderInRange}
use Rattle.ats_commit.proofs.DictionaryLemmas.{dictionary_count}

module _ (H : List ℕ → List ℕ) (sized : (bytes : List ℕ) → length (H bytes) ≡ 32) where
  length-digest_of : (tree : Tree (List ℕ)) → length (digest_of H tree) ≡ 32
  length-digest_of empty = sized []
  length-digest_of (leaf d) = sized (0 ∷ d)
  length-digest_of (node l r) = sized (1 ∷ digest_of H l ++ digest_of H r)

  -- a root has 32 bytes
  length-mth : (ds : List (List ℕ)) → length (mth H ds) ≡ 32
  length-mth ds = length-digest_of (tree_of ds)

  pub header_in_range : (archive : Archive) → AreWithin archive.texts → total_terms archive.texts ≤ 2 ^ 24 → HasHeaderInRange H archive
  header_in_range archive within few = record {
    numbers = record {
      some = within.some;
      few = within.few;
      sentinels = omega (arith, dictionary_count H archive);
      terms = omega (arith, dictionary_count H archive, vocabulary_few archive.texts);
    };
    dict = length-mth (dict_leaves (dictionary_of H archive));
    docs = length-mth (documents_of H archive.texts);
    texts = length-mth archive.texts;
  }

  length-parts : (n d : ℕ) (a b c : List ℕ) → length a ≡ 32 → length b ≡ 32 → length c ≡ 32 → length (header_bytes n d a b c) ≡ 105
  unfolding header_bytes
  length-parts n d a b c first second third =
      let front : List ℕ = 1 ∷ to_be_bytes w32 n ++ to_be_bytes w32 d in
      omega (arith, first, second, third, length-append (front ++ a ++ b) c, length-append (front ++ a) b, length-append front a)

  pub length-header : (archive : Archive) → length (header_of H archive) ≡ 105
  length-header archive =
      length-parts (length archive.texts) (length (dict_leaves (dictionary_of H archive))) (mth H (dict_leaves (dictionary_of H archive))) (mth H (documents_of H archive.texts)) (mth H archive.texts)
      (length-mth (dict_leaves (dictionary_of H archive))) (length-mth (documents_of H archive.texts)) (length-mth archive.texts)

-- the bytes of the header, one part after another
pub header_joined : (H : List ℕ → List ℕ) (archive : Archive) → header_of H archive
    ≡ 1 ∷ to_be_bytes w32 (length archive.texts) ++ to_be_bytes w32 (length (vocabulary archive.texts) + 2)
    ++ mth H (dict_leaves (dictionary_of H archive)) ++ mth H (documents_of H archive.texts) ++ mth H archive.texts
unfolding header_bytes
header_joined H archive =
    ap (λ d. header_bytes (length archive.texts) d (mth H (dict_leaves (dictionary_of H archive))) (mth H (documents_of H archive.texts)) (mth H archive.texts)) (dictionary_count H archive)

-- How many bytes an index has.
use Rattle.std.proofs.Common.{◌≡◌, ◌≤◌, ◌*◌, ◌+◌, ◌^◌, ℕ, List, [], ◌∷◌, ◌++◌, length, map, refl, sym, ap, ap₂, subst, ◌∙◌, arith, length-append}
use Rattle.std.specs.Prelude.{sum_by}
use Rattle.std.specs.Int.{to_be_bytes, w32}
use Rattle.std.specs.List.{flat_map}
use Rattle.std.proofs.lemmas.List.Sums.{sum_by-cons}
use Rattle.ats_terms.specs.Terms.{terms}
use Rattle.ats_impact.specs.Score.{frequency, total_terms}
use Rattle.ats_lists.specs.Leaf.{leaf_bytes}
use Rattle.ats_postings.specs.Lists.{list, lists_of, vocabulary}
use Rattle.ats_postings.specs.declared.entry.Entry.{Entry}
use Rattle.ats_postings.proofs.Public.{vocabulary_few, list_frequency}
use Rattle.ats_commit.specs.Archive.{Archive, header_tag}
use Rattle.ats_commit.specs.Root.{root_of, header_of}
use Rattle.ats_commit.proofs.Public.{few_within}
use Rattle.ats_lists.specs.declared.format.Format.{Format}
use Rattle.ats_index.specs.Spelling.{IsSpelling, front_bytes, text_bytes, list_bytes, texts_bytes, lists_bytes}
use Rattle.ats_index.proofs.Loading.{texts_first}
use Rattle.ats_index.proofs.TermBytes.{term_bytes}
use Rattle.ats_index.proofs.Vocabulary.{distinct_within, frequencies_within}

entries_size : (entries : List Entry) → length (flat_map leaf_bytes entries) ≡ 6 * length entries
entries_size [] = refl
entries_size (entry ∷ entries) = omega (arith, length-append (leaf_bytes entry) (flat_map leaf_bytes entries), entries_size entries)

list_size : (term : List ℕ) (entries : List Entry) → length (list_bytes (term, entries)) ≡ 5 + length term + 6 * length entries
unfolding list_bytes
list_size term entries =
    let number : List ℕ = to_be_bytes w32 (length entries) in
    omega (arith, length-append (term ++ number) (flat_map leaf_bytes entries), length-append term number, entries_size entries)

text_size : (text : List ℕ) → length (text_bytes text) ≡ 4 + length text
unfolding text_bytes
text_size text = omega arith

-- nine bytes come first
pub front_size : (format : Format) (n : ℕ) (rest : List ℕ) → length (front_bytes format n ++ rest) ≡ 9 + length rest
unfolding front_bytes
front_size format n rest = omega arith

all_texts : (texts : List (List ℕ)) → length (flat_map text_bytes texts) ≡ 4 * length texts + sum_by (λ (t : List ℕ). length t) texts
all_texts [] = refl
all_texts (text ∷ texts) =
    omega (
      arith,
      length-append (text_bytes text) (flat_map text_bytes texts),
      text_size text,
      all_texts texts,
      sum_by-cons (λ (t : List ℕ). length t) text texts,
    )

all_lists : (texts some : List (List ℕ))
    → length (flat_map list_bytes (map (λ term. (term, list texts term)) some))
    ≡ 5 * length some + sum_by (λ (t : List ℕ). length t) some + 6 * sum_by (λ term. frequency term texts) some
all_lists texts [] = refl
all_lists texts (term ∷ some) =
    omega (
      arith,
      length-append (list_bytes (term, list texts term)) (flat_map list_bytes (map (λ (t : List ℕ). (t, list texts t)) some)),
      list_size term (list texts term),
      list_frequency texts term,
      all_lists texts some,
      sum_by-cons (λ (t : List ℕ). length t) term some,
      sum_by-cons (λ (t : List ℕ). frequency t texts) term some,
    )

texts_size : (format : Format) (texts : List (List ℕ)) → length (texts_bytes format texts) ≡ 9 + (4 * length texts + sum_by (λ (t : List ℕ). length t) texts)
texts_size format texts = front_size format (length texts) (flat_map text_bytes texts) ∙ ap (λ n. 9 + n) (all_texts texts)

lists_size : (texts : List (List ℕ))
    → length (lists_bytes (lists_of texts))
    ≡ 4 + (5 * length (vocabulary texts) + sum_by (λ (t : List ℕ). length t) (vocabulary texts) + 6 * sum_by (λ term. frequency term texts) (vocabulary texts))
unfolding lists_of
lists_size texts = omega (arith, all_lists texts (vocabulary texts))

-- the sum, for n texts of s bytes, k terms, and v distinct ones of w bytes with f entries
sum_small : (n s k v w f : ℕ) → n ≤ 65536 → s ≤ 2 ^ 24 → k ≤ 2 ^ 24 → v ≤ k → w ≤ 12 * s → f ≤ k
    → 9 + (4 * n + s) + (4 + (5 * v + w + 6 * f) + 32) ≤ 2 ^ 29
sum_small n s k v w f few small terms distinct spelled entries = omega arith

-- the bytes of an archive's index
pub index_size : (H : List ℕ → List ℕ) → ((m : List ℕ) → length (H m) ≡ 32) → (bytes : List ℕ) (archive : Archive) → IsSpelling H bytes archive → length bytes ≤ 2 ^ 29
index_size H sized bytes archive is =
    let Length : List ℕ → ℕ = λ t. length t in
    let texts : List (List ℕ) = archive.texts in
    let lists : List ℕ = lists_bytes (lists_of texts) in
    let root : List ℕ = root_of H archive in
    let following : length (lists ++ root) ≡ 4 + (5 * length (vocabulary texts) + sum_by Length (vocabulary texts) + 6 * sum_by (λ term. frequency term texts) (vocabulary texts)) + 32 =
    length-append lists root ∙ ap₂ (λ a b. a + b) (lists_size texts) (sized (header_tag archive.format ∷ header_of H archive)) in
    let whole = ap length (is.same ∙ texts_first H archive) ∙ length-append (texts_bytes archive.format texts) (lists ++ root) ∙ ap₂ (λ a b. a + b) (texts_size archive.format texts) following in
    let spelled : sum_by Length (vocabulary texts) ≤ 12 * sum_by Length texts = omega (arith, distinct_within Length texts, term_bytes texts is.utf8) in
    subst (λ n. n ≤ 2 ^ 29) (sym whole)
    (sum_small (length texts) (sum_by Length texts) (total_terms texts) (length (vocabulary texts)) (sum_by Length (vocabulary texts))
    (sum_by (λ term. frequency term texts) (vocabulary texts)) is.within.few is.within.small (few_within texts is.utf8 is.within) (vocabulary_few texts) spelled (frequencies_within texts))

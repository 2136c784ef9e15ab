-- The entries of the dictionary of an archive are short, and few.
use Rattle.std.proofs.Common.{◌≡◌, ◌<◌, ◌≤◌, ◌^◌, ◌∙◌, ◌&&◌, ℕ, Bool, true, cond, nat_lt, nat_le, List, [], ◌∷◌, length, map, get_or, sym, ap, subst, arith, inl, inr}
use Rattle.std.specs.List.{All, flat_map}
use Rattle.std.specs.Str.{bytes_eq}
use Rattle.std.proofs.lemmas.Bool.{cases_Bool}
use Rattle.std.proofs.lemmas.Bool.Decides.{nat_tests}
use Rattle.std.proofs.lemmas.List.{get_or-map, length-map}
use Rattle.std.proofs.lemmas.List.Elements.{All-append, All-head, All-nil, All-tail, filter_passes}
use Rattle.std.proofs.lemmas.List.Sums.{count_by-le-length, sum_by-cons}
use Rattle.std.proofs.lemmas.Slice.Eq.{bytes_eq-Decides}
use Rattle.ats_terms.specs.Query.{counted}
use Rattle.unicode_segmentation.specs.Word.{words}
use Rattle.ats_terms.specs.Terms.{folded, is_term, occurrences, terms}
use Rattle.ats_terms.proofs.Public.{counted_counts, weight_at}
use Rattle.ats_impact.specs.Score.{count}
use Rattle.ats_lists.proofs.Public.{root-sized}
use Rattle.ats_postings.specs.Lists.{list, vocabulary}
use Rattle.ats_postings.proofs.Public.{vocabulary_few}
use Rattle.ats_dict.specs.Entry.{DictEntry}
use Rattle.ats_dict.proofs.Public.{length-dict_leaves}
use Rattle.ats_commit.specs.Archive.{Archive}
use Rattle.ats_commit.specs.Own.{AreTexts}
use Rattle.ats_commit.specs.Trees.{dictionary_of}
use Rattle.ats_commit.proofs.Public.{dictionary_count, dictionary_numbers, dictionary_roots, dictionary_terms, few_within}
use Rattle.ats_honest.proofs.Spots.{IsLeaf}

abbrev IsShortTerm : List ℕ → Type 0
IsShortTerm term = length term ≤ 64

-- what holds of each of some terms holds of one that occurs
occurs_has : (P : List ℕ → Type 0) (term : List ℕ) (all : List (List ℕ)) → All P all → 0 < occurrences term all → P term
occurs_has P term [] each some = absurd (omega (arith, some))
occurs_has P term (t ∷ all) each some = elim (cases_Bool (bytes_eq term t)) [
  | inl same ↦ subst P (sym ((bytes_eq-Decides term t).0 same)) (All-head P t all each)
  | inr other ↦
      let weight : Bool → ℕ = λ b. cond b 1 0 in
      let less : 0 < occurrences term all = omega (arith, some, sum_by-cons (λ (x : List ℕ). cond (bytes_eq term x) 1 0) t all, ap weight other) in
      occurs_has P term all (All-tail P t all each) less
]

few_bytes : (n : ℕ) → (nat_lt 0 n && nat_le n 64) ≡ true → n ≤ 64
few_bytes n is = grind (arith, nat_tests)

-- no term of a text is longer
terms_short : (texts : List (List ℕ)) → All IsShortTerm (flat_map terms texts)
terms_short [] = All-nil IsShortTerm
terms_short (text ∷ texts) =
    All-append IsShortTerm (terms text) (flat_map terms texts)
    (λ k d inside. few_bytes (length (get_or (terms text) k d)) (filter_passes is_term (map folded (words text)) k d inside)) (terms_short texts)

vocabulary_short : (texts : List (List ℕ)) → All IsShortTerm (vocabulary texts)
unfolding vocabulary
vocabulary_short texts k d inside =
    let all : List (List ℕ) = flat_map terms texts in
    let pairs : List (List ℕ × ℕ) = counted all in
    let term : List ℕ = (get_or pairs k ([], 0)).0 in
    let own = counted_counts all in
    let here : k < length pairs = omega (arith, inside, length-map pairs (λ (pair : List ℕ × ℕ). pair.0)) in
    let occurs : 0 < occurrences term all = omega (arith, own.some k ([], 0) here, weight_at pairs k ([], 0) own.rises here, own.weights term) in
    subst IsShortTerm (sym (get_or-map (λ (pair : List ℕ × ℕ). pair.0) pairs k ([], 0) d here)) (occurs_has IsShortTerm term all (terms_short texts) occurs)

-- what holds for a leaf holds for each entry
pub own_leaves : (H : List ℕ → List ℕ) → ((bytes : List ℕ) → length (H bytes) ≡ 32) → (archive : Archive) → length archive.texts ≤ 65536 → All IsLeaf (dictionary_of H archive)
own_leaves H sized archive few k d inside =
    let entries : List DictEntry = dictionary_of H archive in
    let entry : DictEntry = get_or entries k d in
    let term : DictEntry → List ℕ = λ (e : DictEntry). e.term in
    let same : get_or (vocabulary archive.texts) k [] ≡ entry.term = ap (λ (words : List (List ℕ)). get_or words k []) (sym (dictionary_terms H archive)) ∙ get_or-map term entries k d [] inside in
    let among : k < length (vocabulary archive.texts) = omega (arith, inside, length-map entries term, ap (λ (words : List (List ℕ)). length words) (dictionary_terms H archive)) in
    record {
      short = subst IsShortTerm same (vocabulary_short archive.texts k [] among);
      number = omega (arith, dictionary_numbers H archive k d inside, count_by-le-length (λ (text : List ℕ). nat_lt 0 (count entry.term text)) archive.texts, few);
      root = ap (λ (root : List ℕ). length root) (dictionary_roots H archive k d inside) ∙ root-sized H sized archive.format (list archive.texts entry.term);
    }

pub own_few : (H : List ℕ → List ℕ) (archive : Archive) → AreTexts archive.texts → length (dictionary_of H archive) ≤ 2 ^ 24
own_few H archive are =
    omega (arith, length-dict_leaves (dictionary_of H archive), dictionary_count H archive, vocabulary_few archive.texts, few_within archive.texts are.utf8 are.within)

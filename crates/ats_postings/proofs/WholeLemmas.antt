-- The lists of all terms.
use Rattle.std.proofs.Common.{◌≡◌, ◌≢◌, ◌<◌, ◌≤◌, ◌^◌, ℕ, true, false, List, length, get_or, map, nat_lt, sym, ap, subst, ◌∙◌, inl, inr, arith}
use Rattle.std.specs.List.{All, IsDistinct, list_any}
use Rattle.std.specs.List.Sorted.{IsPermutation, IsStrictlySortedBy}
use Rattle.std.specs.Map.{lookup, keys_of}
use Rattle.std.specs.BTreeMap.{is_at}
use Rattle.std.specs.Ordering.{nat_cmp, eq_by_cmp}
use Rattle.std.specs.Str.{bytes_eq}
use Rattle.std.specs.declared.cmp.Ordering.TheVariants.{Less, Equal, Greater}
use Rattle.std.proofs.lemmas.Bool.{cases_lt}
use Rattle.std.proofs.lemmas.Bool.Decides.{nat_tests}
use Rattle.std.proofs.lemmas.Cmp.{eq_by_cmp_equiv, on_total, nat_cmp_total, nat_list_eq_equiv, tied_itself}
use Rattle.std.proofs.lemmas.List.{length-map}
use Rattle.std.proofs.lemmas.Simd.{map-map}
use Rattle.std.proofs.lemmas.List.Elements.{All-map, All-weaker}
use Rattle.std.proofs.lemmas.List.Sorted.{length_permutation, All-permutation}
use Rattle.std.proofs.lemmas.Map.Keys.{IsDistinct-IsPermutation, IsDistinct-from_sorted, apart_from_distinct, Less-from_sorted}
use Rattle.std.proofs.lemmas.Map.Made.{All-is_member}
use Rattle.ats_terms.specs.Terms.{IsTerm}
use Rattle.ats_terms.specs.Query.{byte_cmp}
use Rattle.ats_impact.specs.Score.{frequency, total_terms}
use Rattle.ats_postings.specs.Postings.{postings}
use Rattle.ats_postings.specs.Lists.{by_impact, list, entry_cmp, vocabulary, lists_of, IsList, AreLists}
use Rattle.ats_postings.specs.Inner.Lists.{doc_cmp, AreGathered}
use Rattle.ats_postings.specs.declared.entry.Entry.{Entry}
use Rattle.ats_postings.proofs.PostingLemmas.{postings_rise, postings_below, postings_few, postings_impacts, list_is_sorted, list_rises}
use Rattle.ats_postings.proofs.VocabularyLemmas.{if_some, vocabulary_rises, vocabulary_few, vocabulary_has, entries_are, keys_made, postings_frequency}

-- ---- what holds for each list

falls : (a b : Entry) → entry_cmp a b ≡ Less → b.impact ≤ a.impact
falls a b less = elim (cases_lt a.impact b.impact) [
  | inl up ↦
      let above : nat_cmp b.impact a.impact ≡ Greater = grind (arith, nat_tests) in
      let clash : Greater ≡ Less = rw above at less in
      absurd (cc)
  | inr le ↦ le
]

other_docs : (a b : Entry) → eq_by_cmp doc_cmp a b ≡ false → a.doc ≢ b.doc
other_docs a b differ same =
    let tied : nat_cmp a.doc b.doc ≡ Equal = subst (λ d. nat_cmp a.doc d ≡ Equal) same (tied_itself nat_cmp_total a.doc) in
    let clash : true ≡ false = rw tied at differ in
    absurd (cc)

pub list_keeps : (texts : List (List ℕ)) (term : List ℕ) → 1 ≤ length (postings texts term) → IsList (length texts) (list texts term)
list_keeps texts term some =
    let n : ℕ = length texts in
    let all : List Entry = postings texts term in
    let same : IsPermutation all (list texts term) = (list_is_sorted texts term).same in
    let size : length (list texts term) ≡ length all = length_permutation all (list texts term) same in
    let rises : IsStrictlySortedBy entry_cmp (list texts term) = list_rises texts term in
    let apart : IsDistinct (eq_by_cmp doc_cmp) (list texts term) =
    IsDistinct-IsPermutation (eq_by_cmp doc_cmp) (eq_by_cmp_equiv (on_total (λ (e : Entry). e.doc) nat_cmp_total)).symm all (list texts term) same
    (IsDistinct-from_sorted doc_cmp all (postings_rise n texts term)) in
    record {
      some = omega arith;
      few = omega (arith, postings_few n texts term);
      documents = All-permutation (λ (e : Entry). e.doc < n) all (list texts term) same (postings_below n texts term);
      impacts = All-permutation (λ (e : Entry). (1 ≤ e.impact) × (e.impact ≤ 2200)) all (list texts term) same (postings_impacts n texts term (omega arith));
      falling = λ i j d up inside. falls (get_or (list texts term) i d) (get_or (list texts term) j d) (Less-from_sorted entry_cmp (list texts term) i j d rises up inside);
      once = λ i j d up inside.
          other_docs (get_or (list texts term) i d) (get_or (list texts term) j d) (apart_from_distinct (eq_by_cmp doc_cmp) (list texts term) i j d apart up inside);
    }

some_of : (n : ℕ) → nat_lt 0 n ≡ true → 1 ≤ n
some_of n is = grind (arith, nat_tests)

-- the lists of a collection's texts
pub lists_keep : (texts : List (List ℕ)) → total_terms texts ≤ 2 ^ 24 → All IsTerm (vocabulary texts) → AreLists (length texts) (lists_of texts)
unfolding lists_of
lists_keep texts small terms =
    let words : List (List ℕ) = vocabulary texts in
    let made : List ℕ → List ℕ × List Entry = λ term. (term, list texts term) in
    record {
      few = omega (arith, length-map words made, vocabulary_few texts);
      rise = rw (keys_made (list texts) words) (vocabulary_rises texts);
      terms = All-map (λ (l : List ℕ × List Entry). IsTerm l.0) made words terms;
      each = All-map (λ (l : List ℕ × List Entry). IsList (length texts) l.1) made words
          (All-weaker (λ term. list_any (bytes_eq term) words ≡ true) (λ term. IsList (length texts) (list texts term))
          (λ term is. list_keeps texts term (some_of (length (postings texts term)) (sym (vocabulary_has texts term) ∙ is))) words
          (All-is_member nat_list_eq_equiv words));
    }

list_within : (n k : ℕ) (entries : List Entry) → n ≤ k → IsList n entries → IsList k entries
list_within n k entries more is = record {
  some = is.some;
  few = omega (arith, is.few);
  documents = All-weaker (λ (e : Entry). e.doc < n) (λ (e : Entry). e.doc < k) (λ e below. omega arith) entries is.documents;
  impacts = is.impacts;
  falling = is.falling;
  once = is.once;
}

-- lists over some documents are lists over more
pub lists_within : (n k : ℕ) (lists : List (List ℕ × List Entry)) → n ≤ k → AreLists n lists → AreLists k lists
lists_within n k lists more are = record {
  few = are.few;
  rise = are.rise;
  terms = are.terms;
  each = All-weaker (λ (l : List ℕ × List Entry). IsList n l.1) (λ (l : List ℕ × List Entry). IsList k l.1) (λ l is. list_within n k l.1 more is) lists are.each;
}

pub list_frequency : (texts : List (List ℕ)) (term : List ℕ) → length (list texts term) ≡ frequency term texts
list_frequency texts term =
    length_permutation (postings texts term) (list texts term) (list_is_sorted texts term).same ∙ postings_frequency term texts

-- ---- the map of all documents

postings_gathered : (texts : List (List ℕ)) (term : List ℕ) → AreGathered (postings texts term)
postings_gathered texts term = record {
  rise = postings_rise (length texts) texts term;
  impacts = postings_impacts (length texts) texts term (omega arith);
}

module _ (texts : List (List ℕ)) (es : List (List ℕ × List Entry)) (rises : IsStrictlySortedBy byte_cmp (keys_of es))
    (finds : (q : List ℕ) → lookup (is_at (byte_cmp q)) es ≡ if_some (postings texts q)) where
  -- the entries are the postings of each term of the vocabulary
  entries_is : es ≡ map (λ term. (term, postings texts term)) (vocabulary texts)
  entries_is = entries_are texts es rises finds

  pub all_gathered : All (λ e. AreGathered e.1) es
  all_gathered =
      rw entries_is (All-map (λ (e : List ℕ × List Entry). AreGathered e.1) (λ term. (term, postings texts term)) (vocabulary texts) (λ k d inside.
      postings_gathered texts (get_or (vocabulary texts) k d)))

  -- sorted by impact, they are the lists
  pub made_lists : map (λ e. (e.0, by_impact 2200 e.1)) es ≡ lists_of texts
  unfolding lists_of list
  made_lists =
      let sorted : List ℕ × List Entry → List ℕ × List Entry = λ e. (e.0, by_impact 2200 e.1) in
      ap (map sorted) entries_is ∙ map-map sorted (λ term. (term, postings texts term)) (vocabulary texts)

  -- and their terms are those of the vocabulary
  pub terms_are : All IsTerm (keys_of es) → All IsTerm (vocabulary texts)
  terms_are all =
      let same : keys_of es ≡ vocabulary texts = ap (map (λ (e : List ℕ × List Entry). e.0)) entries_is ∙ keys_made (postings texts) (vocabulary texts) in
      rw same at all

-- The postings of a term, document by document, and the list that they make.
use Rattle.std.proofs.Common.{◌≡◌, ◌<◌, ◌≤◌, ◌+◌, ◌-◌, ℕ, zero, suc, Bool, true, false, cond, List, [], ◌∷◌, ◌++◌, length, get_or, map, nat_lt, refl, sym, ap, ◌∙◌, arith}
use Rattle.std.specs.List.{All, filter, range_with_len}
use Rattle.std.specs.List.Sorted.{IsStrictlySortedBy}
use Rattle.std.specs.Ordering.{nat_cmp}
use Rattle.std.proofs.lemmas.Bool.Decides.{nat_tests}
use Rattle.std.proofs.lemmas.List.{length-map, map-append}
use Rattle.std.proofs.lemmas.List.Elements.{All-map, All-filter, All-weaker, All-from_get_or, filter-append, filter_passes}
use Rattle.std.proofs.lemmas.List.FromFn.{get_or-range_with_len, length-range_with_len}
use Rattle.std.proofs.lemmas.List.Kept.{IsStrictlySortedBy-filter}
use Rattle.std.proofs.lemmas.List.Sums.{get_or-le-sum_by, length-filter, count_by-le-length}
use Rattle.std.proofs.lemmas.Map.Keys.{sorted_from_strictly_increasing}
use Rattle.ats_terms.specs.Terms.{terms}
use Rattle.ats_impact.specs.Score.{total_terms}
use Rattle.ats_impact.proofs.Public.{impact_small, occurs_few}
use Rattle.ats_postings.specs.Postings.{text_of, count_in, posting, postings_of_run, postings_of_first, postings}
use Rattle.ats_postings.specs.Lists.{by_impact, list, entry_cmp, IsListOf}
use Rattle.ats_postings.specs.Inner.Lists.{doc_cmp}
use Rattle.ats_postings.specs.declared.entry.Entry.{Entry}
use Rattle.ats_postings.proofs.Rising.{rises_map, all_any, sorted_from_rises, sorted_permutation_is_one}
use Rattle.ats_postings.proofs.Sorting.{entry_cmp_total, entry_cmp_exact, distinct_docs, by_impact_rises, by_impact_same}

abbrev has : List (List ℕ) → List ℕ → ℕ → Bool
has texts term doc = nat_lt 0 (count_in texts term doc)

abbrev holders : ℕ → List (List ℕ) → List ℕ → List ℕ
holders n texts term = filter (has texts term) (range_with_len 0 n)

range_rises : (n : ℕ) → IsStrictlySortedBy nat_cmp (range_with_len 0 n)
range_rises n = sorted_from_strictly_increasing (range_with_len 0 n) (λ k inside.
    let first : get_or (range_with_len 0 n) k 0 ≡ 0 + k = get_or-range_with_len 0 n k 0 (omega (arith, length-range_with_len 0 n)) in
    let second : get_or (range_with_len 0 n) (k + 1) 0 ≡ 0 + (k + 1) = get_or-range_with_len 0 n (k + 1) 0 (omega (arith, length-range_with_len 0 n)) in
    omega (arith, first, second))

range_below : (n : ℕ) → All (λ doc. doc < n) (range_with_len 0 n)
range_below n = All-from_get_or (λ doc. doc < n) (range_with_len 0 n) 0 (λ i inside.
    let at : get_or (range_with_len 0 n) i 0 ≡ 0 + i = get_or-range_with_len 0 n i 0 (omega (arith, length-range_with_len 0 n)) in
    omega (arith, at, length-range_with_len 0 n))

range_joined : (a m n : ℕ) → range_with_len a m ++ range_with_len (a + m) n ≡ range_with_len a (m + n)
range_joined a zero n =
    let start : a + zero ≡ a = omega arith in
    let size : zero + n ≡ n = omega arith in
    ap (λ k. range_with_len k n) start ∙ ap (range_with_len a) (sym size)
range_joined a (suc m) n =
    let start : a + suc m ≡ (a + 1) + m = omega arith in
    let size : suc m + n ≡ suc (m + n) = omega arith in
    ap (λ k. range_with_len a (suc m) ++ range_with_len k n) start
    ∙ ap (λ (t : List ℕ). a ∷ t) (range_joined (a + 1) m n)
    ∙ ap (range_with_len a) (sym size)

-- postings are in the order of documents
pub postings_rise : (n : ℕ) (texts : List (List ℕ)) (term : List ℕ) → IsStrictlySortedBy doc_cmp (postings_of_first n texts term)
unfolding postings_of_run posting
postings_rise n texts term =
    rises_map (λ _. Unit {0}) nat_cmp doc_cmp (posting texts term) (holders n texts term) (λ y z here there less. less) (all_any (holders n texts term))
    (IsStrictlySortedBy-filter nat_cmp (has texts term) (range_with_len 0 n) (range_rises n))

pub postings_below : (n : ℕ) (texts : List (List ℕ)) (term : List ℕ) → All (λ entry. entry.doc < n) (postings_of_first n texts term)
unfolding postings_of_run posting
postings_below n texts term =
    All-map (λ (entry : Entry). entry.doc < n) (posting texts term) (holders n texts term)
    (All-filter (has texts term) (λ doc. doc < n) (range_with_len 0 n) (range_below n))

pub postings_few : (n : ℕ) (texts : List (List ℕ)) (term : List ℕ) → length (postings_of_first n texts term) ≤ n
unfolding postings_of_run
postings_few n texts term =
    omega (
      arith,
      length-map (holders n texts term) (posting texts term),
      length-filter (has texts term) (range_with_len 0 n),
      count_by-le-length (has texts term) (range_with_len 0 n),
      length-range_with_len 0 n,
    )

-- a document has at most as many terms as all
pub terms_within : (texts : List (List ℕ)) (doc : ℕ) → doc < length texts → length (terms (text_of texts doc)) ≤ total_terms texts
terms_within texts doc inside = get_or-le-sum_by (λ (text : List ℕ). length (terms text)) texts doc [] inside

impact_bounds : (texts : List (List ℕ)) (term : List ℕ) (n doc : ℕ) → n ≤ length texts → (doc < n) × (has texts term doc ≡ true)
    → (1 ≤ (posting texts term doc).impact) × ((posting texts term doc).impact ≤ 2200)
unfolding posting
impact_bounds texts term n doc within (below, holds) =
    let some : 0 < count_in texts term doc = grind (arith, nat_tests) in
    let few : count_in texts term doc ≤ length (terms (text_of texts doc)) = occurs_few term (terms (text_of texts doc)) in
    let total : 1 ≤ total_terms texts = omega (arith, some, few, terms_within texts doc (omega arith)) in
    let small = impact_small (count_in texts term doc) (total_terms texts) (length (terms (text_of texts doc))) (length texts) total in
    (omega arith, omega (arith, small))

holders_are : (n : ℕ) (texts : List (List ℕ)) (term : List ℕ) → All (λ doc. (doc < n) × (has texts term doc ≡ true)) (holders n texts term)
holders_are n texts term k d inside = (
  All-filter (has texts term) (λ doc. doc < n) (range_with_len 0 n) (range_below n) k d inside,
  filter_passes (has texts term) (range_with_len 0 n) k d inside,
)

pub postings_impacts : (n : ℕ) (texts : List (List ℕ)) (term : List ℕ) → n ≤ length texts
    → All (λ entry. (1 ≤ entry.impact) × (entry.impact ≤ 2200)) (postings_of_first n texts term)
unfolding postings_of_run
postings_impacts n texts term within =
    All-map (λ (entry : Entry). (1 ≤ entry.impact) × (entry.impact ≤ 2200)) (posting texts term) (holders n texts term)
    (All-weaker (λ doc. (doc < n) × (has texts term doc ≡ true)) (λ doc. (1 ≤ (posting texts term doc).impact) × ((posting texts term doc).impact ≤ 2200))
    (λ doc is. impact_bounds texts term n doc within is) (holders n texts term) (holders_are n texts term))

map_cond : {X Y : Type 0} (f : X → Y) (b : Bool) (x : X) → map f (cond b (x ∷ []) []) ≡ cond b (f x ∷ []) []
map_cond f true x = refl
map_cond f false x = refl

-- the postings of two runs, the second one after the first, are those of both
postings_joined : (first m n : ℕ) (texts : List (List ℕ)) (term : List ℕ)
    → postings_of_run first m texts term ++ postings_of_run (first + m) n texts term ≡ postings_of_run first (m + n) texts term
unfolding postings_of_run
postings_joined first m n texts term =
    let front : List ℕ = range_with_len first m in
    let back : List ℕ = range_with_len (first + m) n in
    sym (map-append (posting texts term) (filter (has texts term) front) (filter (has texts term) back))
    ∙ ap (map (posting texts term)) (sym (filter-append (has texts term) front back))
    ∙ ap (λ r. map (posting texts term) (filter (has texts term) r)) (range_joined first m n)

posting_alone : (doc : ℕ) (texts : List (List ℕ)) (term : List ℕ)
    → postings_of_run doc 1 texts term ≡ cond (nat_lt 0 (count_in texts term doc)) (posting texts term doc ∷ []) []
unfolding postings_of_run
posting_alone doc texts term = map_cond (posting texts term) (has texts term doc) doc

-- the postings of one document more
pub postings_more : (first n doc : ℕ) (texts : List (List ℕ)) (term : List ℕ) → first + n ≡ doc
    → postings_of_run first (n + 1) texts term
    ≡ postings_of_run first n texts term ++ cond (nat_lt 0 (count_in texts term doc)) (posting texts term doc ∷ []) []
postings_more first n doc texts term at =
    sym (postings_joined first n 1 texts term)
    ∙ ap (λ k. postings_of_run first n texts term ++ postings_of_run k 1 texts term) at
    ∙ ap (λ t. postings_of_run first n texts term ++ t) (posting_alone doc texts term)

pub postings_none : (first : ℕ) (texts : List (List ℕ)) (term : List ℕ) → postings_of_run first 0 texts term ≡ []
unfolding postings_of_run
postings_none first texts term = refl

-- ---- runs between two documents

pub run_none : (first : ℕ) (texts : List (List ℕ)) (term : List ℕ) → postings_of_run first (first - first) texts term ≡ []
run_none first texts term =
    let none : first - first ≡ 0 = omega arith in
    ap (λ n. postings_of_run first n texts term) none ∙ postings_none first texts term

pub run_more : (first doc : ℕ) (texts : List (List ℕ)) (term : List ℕ) → first ≤ doc
    → postings_of_run first ((doc + 1) - first) texts term
    ≡ postings_of_run first (doc - first) texts term ++ cond (nat_lt 0 (count_in texts term doc)) (posting texts term doc ∷ []) []
run_more first doc texts term up =
    let size : (doc + 1) - first ≡ (doc - first) + 1 = omega arith in
    ap (λ n. postings_of_run first n texts term) size ∙ postings_more first (doc - first) doc texts term (omega arith)

pub run_joined : (first middle end : ℕ) (texts : List (List ℕ)) (term : List ℕ) → first ≤ middle → middle ≤ end
    → postings_of_run first (middle - first) texts term ++ postings_of_run middle (end - middle) texts term
    ≡ postings_of_run first (end - first) texts term
run_joined first middle end texts term low high =
    let start : middle ≡ first + (middle - first) = omega arith in
    let size : (middle - first) + (end - middle) ≡ end - first = omega arith in
    ap (λ k. postings_of_run first (middle - first) texts term ++ postings_of_run k (end - middle) texts term) start
    ∙ postings_joined first (middle - first) (end - middle) texts term
    ∙ ap (λ n. postings_of_run first n texts term) size

pub run_of_all : (texts : List (List ℕ)) (term : List ℕ) → postings_of_run 0 (length texts - 0) texts term ≡ postings texts term
run_of_all texts term =
    let size : length texts - 0 ≡ length texts = omega arith in
    ap (λ n. postings_of_run 0 n texts term) size

pub list_rises : (texts : List (List ℕ)) (term : List ℕ) → IsStrictlySortedBy entry_cmp (list texts term)
unfolding list
list_rises texts term = by_impact_rises 2200 (postings texts term) (postings_rise (length texts) texts term)

-- the list of a term is its postings in order
pub list_is_sorted : (texts : List (List ℕ)) (term : List ℕ) → IsListOf texts term (list texts term)
unfolding list
list_is_sorted texts term = record {
  same = by_impact_same 2200 (postings texts term) (postings_impacts (length texts) texts term (omega arith));
  ordered = sorted_from_rises entry_cmp_total (by_impact 2200 (postings texts term)) (by_impact_rises 2200 (postings texts term) (postings_rise (length texts) texts term));
}

-- and the only entries that are
pub sorted_is_list : (texts : List (List ℕ)) (term : List ℕ) (entries : List Entry) → IsListOf texts term entries → entries ≡ list texts term
sorted_is_list texts term entries is =
    let ours = list_is_sorted texts term in
    sorted_permutation_is_one entry_cmp_total entry_cmp_exact (postings texts term) entries (list texts term)
    (distinct_docs (postings texts term) (postings_rise (length texts) texts term)) is.same is.ordered ours.same ours.ordered

-- The distinct terms of all texts, and entries for each of them.
use Rattle.std.proofs.Common.{◌≡◌, ◌↔◌, ◌<◌, ◌≤◌, ◌+◌, ℕ, zero, suc, Bool, true, false, ◌||◌, ◌&&◌, cond, List, [], ◌∷◌, length, map, take, nat_lt, sum_by, fold, Option, Some, None, refl, sym, ap, ◌∙◌, inl, inr, arith, length-append, add-one, zero-add, add-zero, take_all}
use Rattle.std.specs.Prelude.{T}
use Rattle.std.specs.List.{All, AllByRecursion, Contains, list_any, flat_map}
use Rattle.std.specs.List.Sorted.{IsStrictlySortedBy}
use Rattle.std.specs.Map.{lookup}
use Rattle.std.specs.BTreeMap.{is_at}
use Rattle.std.specs.Str.{bytes_eq}
use Rattle.std.specs.FinMap.Entries.{find, below_all, is_sorted, same_entries}
use Rattle.std.specs.Ordering.{match_ordering, is_eq}
use Rattle.std.specs.declared.cmp.Ordering.{Ordering}
use Rattle.std.specs.declared.cmp.Ordering.TheVariants.{Less, Equal, Greater}
use Rattle.std.proofs.lemmas.Bool.{cases_lt}
use Rattle.std.proofs.lemmas.Bool.Decides.{nat_tests}
use Rattle.std.proofs.lemmas.Cmp.{nat_list_cmp_total, nat_list_eq_equiv}
use Rattle.std.proofs.lemmas.List.{get_or-map, length-map}
use Rattle.std.proofs.lemmas.List.Concat.{length-flat_map}
use Rattle.std.proofs.lemmas.List.Elements.{All-tail}
use Rattle.std.proofs.lemmas.List.Sums.{get_or-le-sum_by, sum_by-cons, sum_by-append, sum_by_more}
use Rattle.std.proofs.lemmas.Map.Keys.{sorted_from_all_adjacent}
use Rattle.std.proofs.lemmas.Map.Lookups.{exact_bytes}
use Rattle.std.proofs.lemmas.Map.Text.{is_eq-slice_cmp}
use Rattle.std.proofs.lemmas.Map.Views.{Contains-from_any, list_any-from_Contains}
use Rattle.std.proofs.lemmas.Slice.Eq.{bytes_eq-Decides}
use Rattle.ats_terms.specs.Terms.{terms, occurrences}
use Rattle.ats_terms.specs.Query.{byte_cmp, put_term, counted, Rises}
use Rattle.ats_terms.specs.Counted.{weight_of}
use Rattle.ats_terms.proofs.Public.{counted_counts, rises_less}
use Rattle.ats_impact.specs.Score.{count, frequency, total_terms}
use Rattle.ats_postings.specs.Postings.{count_in, posting, postings_of_first, postings}
use Rattle.ats_postings.specs.Lists.{vocabulary}
use Rattle.ats_postings.specs.declared.entry.Entry.{Entry}
use Rattle.ats_postings.proofs.PostingLemmas.{postings_more, postings_none}

-- ---- look-ups determine the entries in the order of their keys

below_tells : {K X : Type 0} (R : K → K → Ordering) (k : K) (es : List (K × X)) → AllByRecursion (λ y. R k y ≡ Less) (map (λ e. e.0) es) → T (below_all R k es)
below_tells R k [] below = tt
below_tells R k (e ∷ es) (less, below) = rw less (below_tells R k es below)

both : (a b : Bool) → T a → T b → T (a && b)
both true b first second = second
both false b first second = absurd first

sorted_tells : {K X : Type 0} (R : K → K → Ordering) (es : List (K × X)) → IsStrictlySortedBy R (map (λ e. e.0) es) → T (is_sorted R es)
unfolding IsStrictlySortedBy
sorted_tells R [] rises = tt
sorted_tells R (e ∷ es) (below, rises) = both (below_all R e.0 es) (is_sorted R es) (below_tells R e.0 es below) (sorted_tells R es rises)

find_is_lookup : {K X : Type 0} (R : K → K → Ordering) (q : K) (es : List (K × X)) → find R q es ≡ lookup (is_at (R q)) es
find_is_lookup R q [] = refl
find_is_lookup R q (e ∷ es) = ap (cond (is_eq (R q e.0)) (Some e.1)) (find_is_lookup R q es)

pub same_lookups : {X : Type 0} (es fs : List (List ℕ × X)) → IsStrictlySortedBy byte_cmp (map (λ e. e.0) es) → IsStrictlySortedBy byte_cmp (map (λ e. e.0) fs)
    → ((q : List ℕ) → lookup (is_at (byte_cmp q)) es ≡ lookup (is_at (byte_cmp q)) fs) → es ≡ fs
same_lookups es fs first second same =
    same_entries byte_cmp nat_list_cmp_total exact_bytes es fs (sorted_tells byte_cmp es first) (sorted_tells byte_cmp fs second)
    (λ q. find_is_lookup byte_cmp q es ∙ same q ∙ sym (find_is_lookup byte_cmp q fs))

-- ---- the terms that are counted

found_step : (b found : Bool) (w rest : ℕ) → 0 < w → nat_lt 0 rest ≡ found → nat_lt 0 (cond b w 0 + rest) ≡ (b || found)
found_step true found w rest some is = grind (arith, nat_tests)
found_step false found w rest some is = rw (zero-add rest) is

weights_found : (term : List ℕ) (pairs : List (List ℕ × ℕ)) → All (λ pair. 0 < pair.1) pairs
    → nat_lt 0 (weight_of term pairs) ≡ list_any (bytes_eq term) (map (λ pair. pair.0) pairs)
weights_found term [] all = refl
weights_found term (pair ∷ pairs) all =
    rw (sum_by-cons (λ (p : List ℕ × ℕ). cond (bytes_eq term p.0) p.1 0) pair pairs)
    (found_step (bytes_eq term pair.0) (list_any (bytes_eq term) (map (λ p. p.0) pairs)) pair.1 (weight_of term pairs) (all 0 pair (omega arith))
    (weights_found term pairs (All-tail (λ (p : List ℕ × ℕ). 0 < p.1) pair pairs all)))

pairs_rise : (pairs : List (List ℕ × ℕ)) → Rises pairs → IsStrictlySortedBy byte_cmp (map (λ pair. pair.0) pairs)
pairs_rise pairs rises =
    let size = length-map pairs (λ (pair : List ℕ × ℕ). pair.0) in
    sorted_from_all_adjacent nat_list_cmp_total (map (λ pair. pair.0) pairs) [] (λ k inside.
    let first = get_or-map (λ (pair : List ℕ × ℕ). pair.0) pairs k ([], 0) [] (omega (arith, size)) in
    let second = get_or-map (λ (pair : List ℕ × ℕ). pair.0) pairs (k + 1) ([], 0) [] (omega (arith, size)) in
    rw (first, second) (rises_less pairs k (k + 1) ([], 0) rises (omega arith) (omega (arith, size))))

put_longer : (term : List ℕ) (pair : List ℕ × ℕ) (rest more : List (List ℕ × ℕ)) (o : Ordering) → length more ≤ length rest + 1
    → length (match_ordering o ((term, 1) ∷ pair ∷ rest) ((pair.0, pair.1 + 1) ∷ rest) (pair ∷ more)) ≤ length (pair ∷ rest) + 1
put_longer term pair rest more Less few = omega arith
put_longer term pair rest more Equal few = omega arith
put_longer term pair rest more Greater few = omega arith

length-put_term : (term : List ℕ) (pairs : List (List ℕ × ℕ)) → length (put_term pairs term) ≤ length pairs + 1
unfolding put_term
length-put_term term [] = omega arith
length-put_term term (pair ∷ rest) = put_longer term pair rest (put_term rest term) (byte_cmp term pair.0) (length-put_term term rest)

counted_few : (all : List (List ℕ)) (pairs : List (List ℕ × ℕ)) → length (fold put_term pairs all) ≤ length pairs + length all
counted_few [] pairs = omega arith
counted_few (term ∷ all) pairs = omega (arith, counted_few all (put_term pairs term), length-put_term term pairs)

pub vocabulary_rises : (texts : List (List ℕ)) → IsStrictlySortedBy byte_cmp (vocabulary texts)
unfolding vocabulary
vocabulary_rises texts = pairs_rise (counted (flat_map terms texts)) (counted_counts (flat_map terms texts)).rises

pub vocabulary_few : (texts : List (List ℕ)) → length (vocabulary texts) ≤ total_terms texts
unfolding vocabulary
vocabulary_few texts =
    omega (arith, length-map (counted (flat_map terms texts)) (λ (pair : List ℕ × ℕ). pair.0), counted_few (flat_map terms texts) [], length-flat_map terms texts)

-- a term occurs in all texts together as often as in each of them, summed
pub occurs_in : (term : List ℕ) (texts : List (List ℕ)) → occurrences term (flat_map terms texts) ≡ sum_by (count term) texts
occurs_in term [] = refl
occurs_in term (text ∷ texts) =
    omega (arith, sum_by-append (λ (x : List ℕ). cond (bytes_eq term x) 1 0) (terms text) (flat_map terms texts), occurs_in term texts, sum_by-cons (count term) text texts)

posted_step : (a c l : ℕ) → nat_lt 0 a ≡ nat_lt 0 l → nat_lt 0 (a + c) ≡ nat_lt 0 (l + cond (nat_lt 0 c) 1 0)
posted_step a zero l same = rw (add-zero a, add-zero l) same
posted_step a (suc c) l same = grind (arith, nat_tests)

length-cond : (b : Bool) (entry : Entry) → length (cond b (entry ∷ []) []) ≡ cond b 1 0
length-cond true entry = refl
length-cond false entry = refl

posted : (term : List ℕ) (texts : List (List ℕ)) (n : ℕ) → n ≤ length texts
    → nat_lt 0 (sum_by (count term) (take n texts)) ≡ nat_lt 0 (length (postings_of_first n texts term))
posted term texts zero within = rw (postings_none 0 texts term) refl
posted term texts (suc n) within =
    let c : ℕ = count_in texts term n in
    let size : length (postings_of_first (n + 1) texts term) ≡ length (postings_of_first n texts term) + cond (nat_lt 0 c) 1 0 =
    ap length (postings_more 0 n n texts term (zero-add n)) ∙ length-append (postings_of_first n texts term) _
    ∙ ap (λ k. length (postings_of_first n texts term) + k) (length-cond (nat_lt 0 c) (posting texts term n)) in
    let sums : sum_by (count term) (take (n + 1) texts) ≡ sum_by (count term) (take n texts) + c = sum_by_more (count term) texts n [] (omega arith) in
    rw (← add-one n, sums, size) (posted_step (sum_by (count term) (take n texts)) c (length (postings_of_first n texts term)) (posted term texts n (omega arith)))

-- a term is in the vocabulary exactly if it has postings
pub vocabulary_has : (texts : List (List ℕ)) (term : List ℕ) → list_any (bytes_eq term) (vocabulary texts) ≡ nat_lt 0 (length (postings texts term))
unfolding vocabulary
vocabulary_has texts term =
    let counts = counted_counts (flat_map terms texts) in
    sym (weights_found term (counted (flat_map terms texts)) counts.some)
    ∙ ap (nat_lt 0) (counts.weights term ∙ occurs_in term texts ∙ ap (sum_by (count term)) (sym (take_all (length texts) texts (omega arith))))
    ∙ posted term texts (length texts) (omega arith)

-- ---- a map of postings

lookup_step : {X : Type 0} (g : List ℕ → X) (q k : List ℕ) (b : Bool) (found : Bool) (rest : Option X) → bytes_eq q k ≡ b → rest ≡ cond found (Some (g q)) None
    → cond b (Some (g k)) rest ≡ cond (b || found) (Some (g q)) None
lookup_step g q k true found rest is same = ap (λ x. Some (g x)) (sym ((bytes_eq-Decides q k).0 is))
lookup_step g q k false found rest is same = same

pub lookup_made : {X : Type 0} (g : List ℕ → X) (q : List ℕ) (ks : List (List ℕ))
    → lookup (is_at (byte_cmp q)) (map (λ k. (k, g k)) ks) ≡ cond (list_any (bytes_eq q) ks) (Some (g q)) None
lookup_made g q [] = refl
lookup_made g q (k ∷ ks) =
    rw (is_eq-slice_cmp q k) (lookup_step g q k (bytes_eq q k) (list_any (bytes_eq q) ks) (lookup (is_at (byte_cmp q)) (map (λ k. (k, g k)) ks)) refl (lookup_made g q ks))

pub keys_made : {X : Type 0} (g : List ℕ → X) (ks : List (List ℕ)) → map (λ (e : List ℕ × X). e.0) (map (λ k. (k, g k)) ks) ≡ ks
keys_made g [] = refl
keys_made g (k ∷ ks) = ap (λ t. k ∷ t) (keys_made g ks)

-- a list, if it has an element
abbrev pub if_some : {X : Type 0} → List X → Option (List X)
if_some [] = None
if_some (x ∷ xs) = Some (x ∷ xs)

some_is : {X : Type 0} (xs : List X) → cond (nat_lt 0 (length xs)) (Some xs) None ≡ if_some xs
some_is [] = refl
some_is (x ∷ xs) =
    let some : nat_lt 0 (length (x ∷ xs)) ≡ true = grind (arith, nat_tests) in
    rw some refl

-- entries that have the postings of each term, if it has some, are those of the vocabulary
pub entries_are : (texts : List (List ℕ)) (es : List (List ℕ × List Entry)) → IsStrictlySortedBy byte_cmp (map (λ e. e.0) es)
    → ((q : List ℕ) → lookup (is_at (byte_cmp q)) es ≡ if_some (postings texts q)) → es ≡ map (λ term. (term, postings texts term)) (vocabulary texts)
entries_are texts es rises same =
    same_lookups es (map (λ term. (term, postings texts term)) (vocabulary texts)) rises
    (rw (keys_made (postings texts) (vocabulary texts)) (vocabulary_rises texts))
    (λ q. same q ∙ sym (some_is (postings texts q)) ∙ ap (λ b. cond b (Some (postings texts q)) None) (sym (vocabulary_has texts q))
    ∙ sym (lookup_made (postings texts) q (vocabulary texts)))

-- ---- how many documents have a term

frequent : (term : List ℕ) (texts : List (List ℕ)) (n : ℕ) → n ≤ length texts → length (postings_of_first n texts term) ≡ frequency term (take n texts)
frequent term texts zero within = rw (postings_none 0 texts term) refl
frequent term texts (suc n) within =
    let c : ℕ = count_in texts term n in
    let size : length (postings_of_first (n + 1) texts term) ≡ length (postings_of_first n texts term) + cond (nat_lt 0 c) 1 0 =
    ap length (postings_more 0 n n texts term (zero-add n)) ∙ length-append (postings_of_first n texts term) _
    ∙ ap (λ k. length (postings_of_first n texts term) + k) (length-cond (nat_lt 0 c) (posting texts term n)) in
    let sums : frequency term (take (n + 1) texts) ≡ frequency term (take n texts) + cond (nat_lt 0 c) 1 0 =
    sum_by_more (λ (text : List ℕ). cond (nat_lt 0 (count term text)) 1 0) texts n [] (omega arith) in
    rw (← add-one n) (size ∙ ap (λ k. k + cond (nat_lt 0 c) 1 0) (frequent term texts n (omega arith)) ∙ sym sums)

-- a term has a posting in each document that has it
pub postings_frequency : (term : List ℕ) (texts : List (List ℕ)) → length (postings texts term) ≡ frequency term texts
postings_frequency term texts = frequent term texts (length texts) (omega arith) ∙ ap (frequency term) (take_all (length texts) texts (omega arith))

-- a term with a count in some document has a posting
some_frequency : (term : List ℕ) (texts : List (List ℕ)) (doc : ℕ) → doc < length texts → 0 < count_in texts term doc → 0 < frequency term texts
some_frequency term texts doc inside some =
    let yes : nat_lt 0 (count_in texts term doc) ≡ true = grind (arith, nat_tests) in
    let one : 0 < cond {A = ℕ} (nat_lt 0 (count_in texts term doc)) 1 0 = rw yes (omega arith) in
    omega (arith, one, get_or-le-sum_by (λ (text : List ℕ). cond (nat_lt 0 (count term text)) 1 0) texts doc [] inside)

later : (term : List ℕ) (text : List ℕ) (texts : List (List ℕ)) → (doc : ℕ) × (doc < length texts) × (0 < count_in texts term doc)
    → (doc : ℕ) × (doc < length (text ∷ texts)) × (0 < count_in (text ∷ texts) term doc)
later term text texts (doc, inside, some) = (suc doc, omega arith, some)

-- and some document has each term with a posting
some_document : (term : List ℕ) (texts : List (List ℕ)) → 0 < frequency term texts → (doc : ℕ) × (doc < length texts) × (0 < count_in texts term doc)
some_document term [] some = absurd (omega arith)
some_document term (text ∷ texts) some = elim (cases_lt 0 (count term text)) [
  | inl here ↦ (0, omega arith, here)
  | inr none ↦
      let test : nat_lt 0 (count term text) ≡ false = grind (arith, nat_tests) in
      let share : cond {A = ℕ} (nat_lt 0 (count term text)) 1 0 ≤ 0 = rw test (omega arith) in
      let rest : 0 < frequency term texts = omega (arith, share, sum_by-cons (λ (t : List ℕ). cond {A = ℕ} (nat_lt 0 (count term t)) 1 0) text texts) in
      later term text texts (some_document term texts rest)
]

found_some : (n : ℕ) → nat_lt 0 n ≡ true → 0 < n
found_some n is = grind (arith, nat_tests)

some_found : (n : ℕ) → 0 < n → nat_lt 0 n ≡ true
some_found n some = grind (arith, nat_tests)

-- the vocabulary has the terms that some document has
pub vocabulary_contains : (texts : List (List ℕ)) (term : List ℕ)
    → Contains (vocabulary texts) term ↔ ((doc : ℕ) × (doc < length texts) × (0 < count_in texts term doc))
vocabulary_contains texts term =
    let same : list_any (bytes_eq term) (vocabulary texts) ≡ nat_lt 0 (frequency term texts) =
    vocabulary_has texts term ∙ ap (nat_lt 0) (postings_frequency term texts) in (
      λ has. some_document term texts (found_some (frequency term texts) (sym same ∙ list_any-from_Contains nat_list_eq_equiv term (vocabulary texts) has)),
      λ (doc, inside, some). Contains-from_any (λ x y equal. (bytes_eq-Decides x y).0 equal) term (vocabulary texts)
          (same ∙ some_found (frequency term texts) (some_frequency term texts doc inside some)),
    )

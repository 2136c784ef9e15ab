-- Entries by impact descending, then document ascending.
use Rattle.std.proofs.Common.{◌≡◌, ◌≤◌, ◌==◌, ℕ, zero, suc, Bool, true, false, ◌&&◌, ◌||◌, cond, List, [], ◌∷◌, ◌++◌, get_or, map, nat_le, refl, sym, ap, ap₂, arith}
use Rattle.std.specs.List.{All, IsDistinct, filter}
use Rattle.std.specs.List.Sorted.{IsPermutation, IsSorted, IsStrictlySortedBy}
use Rattle.std.specs.Cmp.{IsTotalOrder}
use Rattle.std.specs.Ordering.{nat_cmp, eq_by_cmp, is_eq, ordering_then}
use Rattle.std.specs.declared.cmp.Ordering.{Ordering}
use Rattle.std.specs.declared.cmp.Ordering.TheVariants.{Less, Equal, Greater}
use Rattle.std.proofs.lemmas.Bool.Decides.{nat_tests}
use Rattle.std.proofs.lemmas.Cmp.{nat_cmp_total, on_total, then_total, back_total}
use Rattle.std.proofs.lemmas.List.Elements.{All-nil, All-append, All-head, All-tail, All-weaker, filter_passes, recursion_from_All}
use Rattle.std.proofs.lemmas.List.Kept.{IsStrictlySortedBy-filter}
use Rattle.std.proofs.lemmas.List.Sorted.{IsPermutation-refl, IsPermutation-cons, IsPermutation-middle, IsPermutation-sym, IsPermutation-trans, IsPermutation-append_right}
use Rattle.std.proofs.lemmas.Map.Keys.{IsDistinct-from_apart, Less-from_sorted}
use Rattle.std.proofs.lemmas.Map.Lookups.{CmpEqualImpliesEq, exact_unsigned}
use Rattle.ats_postings.specs.Lists.{by_impact, entry_cmp}
use Rattle.ats_postings.specs.Inner.Lists.{doc_cmp, AreGathered}
use Rattle.ats_postings.specs.declared.entry.Entry.{Entry}
use Rattle.ats_postings.proofs.Rising.{rises_append, rises_map, sorted_from_rises, sorted_permutation_is_one}

pub entry_cmp_total : IsTotalOrder entry_cmp
entry_cmp_total = then_total (on_total (λ (e : Entry). e.impact) (back_total nat_cmp_total)) (on_total (λ (e : Entry). e.doc) nat_cmp_total)

both_equal : (p q : Ordering) → ordering_then p q ≡ Equal → (p ≡ Equal) × (q ≡ Equal)
both_equal Less q is = absurd (cc)
both_equal Equal q is = (refl, is)
both_equal Greater q is = absurd (cc)

-- the order distinguishes entries
pub entry_cmp_exact : CmpEqualImpliesEq entry_cmp
entry_cmp_exact a b is =
    let both = both_equal (nat_cmp b.impact a.impact) (nat_cmp a.doc b.doc) is in
    let docs : a.doc ≡ b.doc = exact_unsigned a.doc b.doc both.1 in
    let impacts : a.impact ≡ b.impact = sym (exact_unsigned b.impact a.impact both.0) in
    let made : ℕ → ℕ → Entry = λ doc impact. record { doc = doc; impact = impact } in
    ap₂ made docs impacts

apart_then : (p : Ordering) → is_eq (ordering_then p Less) ≡ false
apart_then Less = refl
apart_then Equal = refl
apart_then Greater = refl

-- entries in the order of documents are distinct
pub distinct_docs : (entries : List Entry) → IsStrictlySortedBy doc_cmp entries → IsDistinct (eq_by_cmp entry_cmp) entries
distinct_docs entries rises = IsDistinct-from_apart (eq_by_cmp entry_cmp) entries (λ i j d up inside.
    let a = get_or entries i d in
    let b = get_or entries j d in
    let less : nat_cmp a.doc b.doc ≡ Less = Less-from_sorted doc_cmp entries i j d rises up inside in
    rw less (apart_then (nat_cmp b.impact a.impact)))

same_impact : (n : ℕ) (a b : Entry) → (a.impact == n) ≡ true → (b.impact == n) ≡ true → doc_cmp a b ≡ Less → entry_cmp a b ≡ Less
same_impact n a b first second less =
    let low : (b.impact == a.impact) ≡ true = grind (arith, nat_tests) in
    let tied : nat_cmp b.impact a.impact ≡ Equal = grind (arith, nat_tests) in
    rw tied less

higher_impact : (n : ℕ) (a b : Entry) → (a.impact == suc n) ≡ true → b.impact ≤ n → entry_cmp a b ≡ Less
higher_impact n a b first second =
    let less : nat_cmp b.impact a.impact ≡ Less = grind (arith, nat_tests) in
    rw less refl

map_id : {X : Type 0} (xs : List X) → map (λ x. x) xs ≡ xs
map_id [] = refl
map_id (x ∷ xs) = ap (λ t. x ∷ t) (map_id xs)

low_impact : (n : ℕ) (e : Entry) → (e.impact == n) ≡ true → e.impact ≤ n
low_impact n e is = grind (arith, nat_tests)

low_impacts : (n : ℕ) (entries : List Entry) → All (λ e. e.impact ≤ n) (by_impact n entries)
unfolding by_impact
low_impacts zero entries = All-nil (λ (e : Entry). e.impact ≤ zero)
low_impacts (suc n) entries =
    All-append (λ (e : Entry). e.impact ≤ suc n) (filter (λ e. e.impact == suc n) entries) (by_impact n entries)
    (All-weaker (λ (e : Entry). (e.impact == suc n) ≡ true) (λ (e : Entry). e.impact ≤ suc n) (λ e. low_impact (suc n) e) _ (filter_passes (λ (e : Entry). e.impact == suc n) entries))
    (All-weaker (λ (e : Entry). e.impact ≤ n) (λ (e : Entry). e.impact ≤ suc n) (λ e low. omega arith) _ (low_impacts n entries))

-- entries in the order of documents, sorted by impact, rise strictly
pub by_impact_rises : (n : ℕ) (entries : List Entry) → IsStrictlySortedBy doc_cmp entries → IsStrictlySortedBy entry_cmp (by_impact n entries)
unfolding by_impact IsStrictlySortedBy
by_impact_rises zero entries rises = tt
by_impact_rises (suc n) entries rises =
    let front : List Entry = filter (λ e. e.impact == suc n) entries in
    let passes : All (λ e. (e.impact == suc n) ≡ true) front = filter_passes (λ (e : Entry). e.impact == suc n) entries in
    let first : IsStrictlySortedBy entry_cmp (map (λ e. e) front) =
    rises_map (λ (e : Entry). (e.impact == suc n) ≡ true) doc_cmp entry_cmp (λ e. e) front (same_impact (suc n))
    (recursion_from_All (λ (e : Entry). (e.impact == suc n) ≡ true) front passes) (IsStrictlySortedBy-filter doc_cmp (λ e. e.impact == suc n) entries rises) in
    rises_append entry_cmp front (by_impact n entries) (rw (map_id front) at first) (by_impact_rises n entries rises)
    (All-weaker (λ (e : Entry). (e.impact == suc n) ≡ true) (λ (e : Entry). All (λ y. entry_cmp e y ≡ Less) (by_impact n entries))
    (λ e is. All-weaker (λ (y : Entry). y.impact ≤ n) (λ (y : Entry). entry_cmp e y ≡ Less) (λ y. higher_impact n e y is) _ (low_impacts n entries)) front passes)

-- whether the impact is one of 1 to n
abbrev upto : ℕ → Entry → Bool
upto n e = nat_le 1 e.impact && nat_le e.impact n

none_upto : (entries : List Entry) → filter (upto zero) entries ≡ []
none_upto [] = refl
none_upto (e ∷ entries) =
    let no : upto zero e ≡ false = grind (arith, nat_tests) in
    rw no (none_upto entries)

put_front : (a b c : Bool) (e : Entry) (all front rest : List Entry) → (a ≡ (b || c)) → (b && c) ≡ false
    → IsPermutation all (front ++ rest) → IsPermutation (cond a (e ∷ all) all) (cond b (e ∷ front) front ++ cond c (e ∷ rest) rest)
put_front a true true e all front rest is not_both same = absurd (let clash : true ≡ false = not_both in cc)
put_front a true false e all front rest is not_both same = rw is (IsPermutation-cons e all (front ++ rest) same)
put_front a false true e all front rest is not_both same =
    rw is (IsPermutation-trans (e ∷ all) (e ∷ (front ++ rest)) (front ++ e ∷ rest) (IsPermutation-cons e all (front ++ rest) same)
    (IsPermutation-sym (front ++ e ∷ rest) (e ∷ (front ++ rest)) (IsPermutation-middle front e rest)))
put_front a false false e all front rest is not_both same = rw is same

split_upto : (n : ℕ) (entries : List Entry)
    → IsPermutation (filter (upto (suc n)) entries) (filter (λ e. e.impact == suc n) entries ++ filter (upto n) entries)
split_upto n [] = IsPermutation-refl []
split_upto n (e ∷ entries) =
    put_front (upto (suc n) e) (e.impact == suc n) (upto n e) e _ _ _ (grind (arith, nat_tests)) (grind (arith, nat_tests)) (split_upto n entries)

by_impact_upto : (n : ℕ) (entries : List Entry) → IsPermutation (filter (upto n) entries) (by_impact n entries)
unfolding by_impact
by_impact_upto zero entries = rw (none_upto entries) (IsPermutation-refl [])
by_impact_upto (suc n) entries =
    IsPermutation-trans (filter (upto (suc n)) entries) (filter (λ e. e.impact == suc n) entries ++ filter (upto n) entries) (filter (λ e. e.impact == suc n) entries ++ by_impact n entries)
    (split_upto n entries) (IsPermutation-append_right (filter (λ e. e.impact == suc n) entries) (filter (upto n) entries) (by_impact n entries) (by_impact_upto n entries))

all_upto : (n : ℕ) (entries : List Entry) → All (λ e. (1 ≤ e.impact) × (e.impact ≤ n)) entries → filter (upto n) entries ≡ entries
all_upto n [] all = refl
all_upto n (e ∷ entries) all =
    let here : (1 ≤ e.impact) × (e.impact ≤ n) = All-head (λ (e : Entry). (1 ≤ e.impact) × (e.impact ≤ n)) e entries all in
    let first : 1 ≤ e.impact = here.0 in
    let second : e.impact ≤ n = here.1 in
    let yes : upto n e ≡ true = grind (arith, nat_tests) in
    rw yes (ap (λ t. e ∷ t) (all_upto n entries (All-tail (λ (e : Entry). (1 ≤ e.impact) × (e.impact ≤ n)) e entries all)))

-- entries of impacts 1 to n, sorted by impact, are the same entries
pub by_impact_same : (n : ℕ) (entries : List Entry) → All (λ e. (1 ≤ e.impact) × (e.impact ≤ n)) entries → IsPermutation entries (by_impact n entries)
by_impact_same n entries all = rw (all_upto n entries all) at (by_impact_upto n entries)

-- gathered entries, sorted, are those sorted by impact
pub sorted_gathered : (entries sorted : List Entry) → AreGathered entries → IsPermutation entries sorted → IsSorted entry_cmp sorted → sorted ≡ by_impact 2200 entries
sorted_gathered entries sorted gathered same ordered =
    sorted_permutation_is_one entry_cmp_total entry_cmp_exact entries sorted (by_impact 2200 entries) (distinct_docs entries gathered.rise) same ordered
    (by_impact_same 2200 entries gathered.impacts) (sorted_from_rises entry_cmp_total (by_impact 2200 entries) (by_impact_rises 2200 entries gathered.rise))

-- Only one list of pairs rises and counts the terms of a list.
use Rattle.std.proofs.Common.{◌≡◌, ◌≢◌, ◌<◌, ◌≤◌, ℕ, List, [], ◌∷◌, length, sum_by, Bool, true, false, cond, refl, sym, ap, ap₂, ◌∙◌, arith, get_or, zero, suc}
use Rattle.std.specs.List.{All}
use Rattle.std.specs.Str.{bytes_eq}
use Rattle.std.specs.Bool.{Decides}
use Rattle.std.specs.List.Sorted.{IsPermutation}
use Rattle.std.proofs.lemmas.List.Sorted.{sum_by-IsPermutation}
use Rattle.std.specs.Ordering.{ordering_reverse}
use Rattle.std.specs.declared.cmp.Ordering.{Ordering}
use Rattle.std.specs.declared.cmp.Ordering.TheVariants.{Less, Equal, Greater}
use Rattle.std.proofs.lemmas.Slice.Eq.{bytes_eq-Decides}
use Rattle.std.proofs.lemmas.Cmp.{nat_list_cmp_total}
use Rattle.std.proofs.lemmas.List.Sums.{sum_by-cons}
use Rattle.std.proofs.lemmas.List.Elements.{All-nil, All-tail}
use Rattle.ats_terms.specs.Terms.{IsTerm, occurrences}
use Rattle.ats_terms.specs.Order.{byte_cmp}
use Rattle.ats_terms.specs.Query.{counted, RisesFrom, Rises}
use Rattle.ats_terms.specs.Distinct.{AreDistinct}
use Rattle.ats_terms.specs.Counted.{weight_of, Counts}
use Rattle.ats_terms.proofs.Counting.{equal_from, counted_counts, all_terms}
use Rattle.ats_terms.proofs.Order.{less_unequal, rises_less, rises_rest}

abbrev share : List ℕ → List ℕ × ℕ → ℕ
share term pair = cond (bytes_eq term pair.0) pair.1 0

share_other : (r : Bool) (w : ℕ) {P : Type 0} → Decides r P → ¬ P → cond r w 0 ≡ 0
share_other true w decides not_so = absurd (not_so (decides.0 refl))
share_other false w decides not_so = refl

share_same : (r : Bool) (w : ℕ) {P : Type 0} → Decides r P → P → cond r w 0 ≡ w
share_same r w decides so = ap (λ b. cond b w 0) (decides.1 so)

from_less : (term : List ℕ) (pair : List ℕ × ℕ) (rest : List (List ℕ × ℕ)) → byte_cmp term pair.0 ≡ Less → RisesFrom pair.0 rest → RisesFrom term rest
from_less term pair [] less rises = tt
from_less term pair (next ∷ rest) less rises = (nat_list_cmp_total.trans term pair.0 next.0 less rises.0, rises.1)

-- a term below all others weighs nothing
weightless : (term : List ℕ) (pairs : List (List ℕ × ℕ)) → RisesFrom term pairs → weight_of term pairs ≡ 0
weightless term [] rises = refl
weightless term (pair ∷ rest) (less, rises) =
    let here : share term pair ≡ 0 = share_other (bytes_eq term pair.0) pair.1 (bytes_eq-Decides term pair.0) (less_unequal term pair.0 less) in
    omega (arith, here, weightless term rest (from_less term pair rest less rises), sum_by-cons (share term) pair rest)

-- the weight of the first term is the first pair's
first_weight : (pair : List ℕ × ℕ) (rest : List (List ℕ × ℕ)) → Rises (pair ∷ rest) → weight_of pair.0 (pair ∷ rest) ≡ pair.1
first_weight pair rest rises =
    let here : share pair.0 pair ≡ pair.1 = share_same (bytes_eq pair.0 pair.0) pair.1 (bytes_eq-Decides pair.0 pair.0) refl in
    omega (arith, here, weightless pair.0 rest rises, sum_by-cons (share pair.0) pair rest)

-- no term is lost from one to the other
no_less : (a b : List ℕ × ℕ) (ps qs : List (List ℕ × ℕ)) → Rises (a ∷ ps) → Rises (b ∷ qs) → 0 < a.1
    → weight_of a.0 (a ∷ ps) ≡ weight_of a.0 (b ∷ qs) → byte_cmp a.0 b.0 ≢ Less
no_less a b ps qs first second some same less =
    let none : weight_of a.0 (b ∷ qs) ≡ 0 = weightless a.0 (b ∷ qs) (less, second) in
    absurd (omega (arith, none, same, first_weight a ps first))

first_same : (a b : List ℕ × ℕ) (ps qs : List (List ℕ × ℕ)) (o : Ordering) → byte_cmp a.0 b.0 ≡ o → Rises (a ∷ ps) → Rises (b ∷ qs)
    → 0 < a.1 → 0 < b.1 → ((term : List ℕ) → weight_of term (a ∷ ps) ≡ weight_of term (b ∷ qs)) → a.0 ≡ b.0
first_same a b ps qs Less is first second some any same = absurd (no_less a b ps qs first second some (same a.0) is)
first_same a b ps qs Equal is first second some any same = equal_from a.0 b.0 is
first_same a b ps qs Greater is first second some any same =
    absurd (no_less b a qs ps second first any (sym (same b.0)) (nat_list_cmp_total.antisymm b.0 a.0 ∙ ap ordering_reverse is))

-- rising pairs with equal weights of every term are equal
pub unique : (ps qs : List (List ℕ × ℕ)) → Rises ps → Rises qs → All (λ pair. 0 < pair.1) ps → All (λ pair. 0 < pair.1) qs
    → ((term : List ℕ) → weight_of term ps ≡ weight_of term qs) → ps ≡ qs
unique [] [] first second some any same = refl
unique [] (b ∷ qs) first second some any same = absurd (omega (arith, same b.0, first_weight b qs second, any 0 b (omega arith)))
unique (a ∷ ps) [] first second some any same = absurd (omega (arith, same a.0, first_weight a ps first, some 0 a (omega arith)))
unique (a ∷ ps) (b ∷ qs) first second some any same =
    let name : a.0 ≡ b.0 = first_same a b ps qs (byte_cmp a.0 b.0) refl first second (some 0 a (omega arith)) (any 0 b (omega arith)) same in
    let weight : a.1 ≡ b.1 =
    sym (first_weight a ps first) ∙ same a.0 ∙ ap (λ t. weight_of t (b ∷ qs)) name ∙ first_weight b qs second in
    let head : a ≡ b = ap₂ (λ t w. (t, w)) name weight in
    let rest : (term : List ℕ) → weight_of term ps ≡ weight_of term qs =
    λ term. omega (arith, same term, ap (share term) head, sum_by-cons (share term) a ps, sum_by-cons (share term) b qs) in
    ap₂ (λ x xs. x ∷ xs) head
    (unique ps qs (rises_rest a ps first) (rises_rest b qs second) (All-tail (λ (p : List ℕ × ℕ). 0 < p.1) a ps some)
    (All-tail (λ (p : List ℕ × ℕ). 0 < p.1) b qs any) rest)

-- pairs that count the terms of a list are the list's
pub counts_counted : (all : List (List ℕ)) (pairs : List (List ℕ × ℕ)) → Counts all pairs → pairs ≡ counted all
counts_counted all pairs counts =
    let own = counted_counts all in
    unique pairs (counted all) counts.rises own.rises counts.some own.some (λ term. counts.weights term ∙ sym (own.weights term))

-- lists with equal occurrences of every term have one list of pairs
pub counted_same : (all others : List (List ℕ)) → ((term : List ℕ) → occurrences term all ≡ occurrences term others) → counted all ≡ counted others
counted_same all others same =
    let own = counted_counts all in
    counts_counted others (counted all) (record { rises = own.rises; some = own.some; weights = λ term. own.weights term ∙ same term })

-- the pairs do not depend on the order of the list
pub counted_permuted : (all others : List (List ℕ)) → IsPermutation all others → counted others ≡ counted all
counted_permuted all others is = sym (counted_same all others (λ term. sym (sum_by-IsPermutation (λ x. cond (bytes_eq term x) 1 0) all others is)))

-- there are at most as many pairs as the sum of their weights
pub few_pairs : (pairs : List (List ℕ × ℕ)) → All (λ pair. 0 < pair.1) pairs → length pairs ≤ sum_by (λ pair. pair.1) pairs
few_pairs [] some = omega arith
few_pairs (pair ∷ pairs) some =
    omega (arith, some 0 pair (omega arith), few_pairs pairs (All-tail (λ (p : List ℕ × ℕ). 0 < p.1) pair pairs some), sum_by-cons (λ (p : List ℕ × ℕ). p.1) pair pairs)

-- the counted pairs of valid terms are distinct terms
pub counted_distinct : (all : List (List ℕ)) → All IsTerm all → AreDistinct (counted all)
counted_distinct all each =
    let own = counted_counts all in
    record { rises = own.rises; terms = all_terms all [] each (All-nil (λ (p : List ℕ × ℕ). IsTerm p.0)); some = own.some }

-- the weight of a pair's term is the pair's
pub weight_at : (pairs : List (List ℕ × ℕ)) (i : ℕ) (d : List ℕ × ℕ) → Rises pairs → i < length pairs
    → weight_of (get_or pairs i d).0 pairs ≡ (get_or pairs i d).1
weight_at [] i d rises inside = absurd (omega arith)
weight_at (pair ∷ rest) zero d rises inside = first_weight pair rest rises
weight_at (pair ∷ rest) (suc i) d rises inside =
    let term = (get_or rest i d).0 in
    let less : byte_cmp pair.0 term ≡ Less = rises_less (pair ∷ rest) 0 (suc i) d rises (omega arith) inside in
    let here : share term pair ≡ 0 = share_other (bytes_eq term pair.0) pair.1 (bytes_eq-Decides term pair.0) (λ same. less_unequal pair.0 term less (sym same)) in
    omega (arith, here, weight_at rest i d (rises_rest pair rest rises) (omega arith), sum_by-cons (share term) pair rest)

-- a term that is in no pair weighs nothing
pub weight_absent : (term : List ℕ) (pairs : List (List ℕ × ℕ)) → All (λ pair. pair.0 ≢ term) pairs → weight_of term pairs ≡ 0
weight_absent term [] absent = refl
weight_absent term (pair ∷ pairs) absent =
    let here : share term pair ≡ 0 = share_other (bytes_eq term pair.0) pair.1 (bytes_eq-Decides term pair.0) (λ same. absent 0 pair (omega arith) (sym same)) in
    omega (arith, here, weight_absent term pairs (All-tail (λ (p : List ℕ × ℕ). p.0 ≢ term) pair pairs absent), sum_by-cons (share term) pair pairs)

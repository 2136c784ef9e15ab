-- The runs of equal terms in a list in byte order.
use Rattle.std.proofs.Common.{◌≡◌, ◌≢◌, ◌<◌, ◌≤◌, ◌+◌, ◌-◌, ℕ, List, [], ◌∷◌, ◌++◌, length, get_or, take, set, map, false, inl, inr, refl, sym, ap, ap₂, subst, ◌∙◌, arith, length-append, length-take, sum_by, zero-add}
use Rattle.std.specs.List.{All, zip}
use Rattle.std.proofs.lemmas.Bool.{cases_lt}
use Rattle.std.specs.List.Sorted.{IsSorted}
use Rattle.std.specs.Ordering.{is_lt, ordering_reverse}
use Rattle.std.specs.declared.cmp.Ordering.{Ordering}
use Rattle.std.specs.declared.cmp.Ordering.TheVariants.{Less, Equal, Greater}
use Rattle.std.proofs.lemmas.Cmp.{nat_list_cmp_total, tied_itself}
use Rattle.std.proofs.lemmas.List.{get_or_default, map-append, take_more}
use Rattle.std.proofs.lemmas.List.Elements.{All-nil, All-tail, All-push}
use Rattle.std.proofs.lemmas.Slice.Zip.{firsts-zip, seconds-zip, get_or-zip, length-zip}
use Rattle.std.proofs.lemmas.List.Sums.{fold-append, get_or-le-sum_by}
use Rattle.std.proofs.Math.Seq.{get_or-append_seam, set-append_seam}
use Rattle.ats_terms.specs.Order.{byte_cmp}
use Rattle.ats_terms.specs.Query.{put_term, counted}
use Rattle.ats_terms.proofs.Counting.{equal_from, all_weigh}

-- every term of the pairs is below this one
abbrev pub AreBelow : List (List ℕ × ℕ) → List ℕ → Type 0
AreBelow pairs term = All (λ pair. byte_cmp pair.0 term ≡ Less) pairs

-- the pairs end with this term, and the others are below it
pub record EndsWith (pairs : List (List ℕ × ℕ)) (term : List ℕ) : Type 0 where
  pub front : List (List ℕ × ℕ)
  pub weight : ℕ
  pub same : pairs ≡ front ++ (term, weight) ∷ []
  pub below : AreBelow front term

above : (pair : List ℕ × ℕ) (term : List ℕ) → byte_cmp pair.0 term ≡ Less → byte_cmp term pair.0 ≡ Greater
above pair term less = nat_list_cmp_total.antisymm term pair.0 ∙ ap ordering_reverse less

put_above : (pairs : List (List ℕ × ℕ)) (term : List ℕ) → AreBelow pairs term → put_term pairs term ≡ pairs ++ (term, 1) ∷ []
unfolding put_term
put_above [] term below = refl
put_above (pair ∷ rest) term below =
    let here : byte_cmp term pair.0 ≡ Greater = above pair term (below 0 pair (omega arith)) in
    rw here (ap (λ ps. pair ∷ ps) (put_above rest term (All-tail (λ (p : List ℕ × ℕ). byte_cmp p.0 term ≡ Less) pair rest below)))

put_last : (front : List (List ℕ × ℕ)) (term : List ℕ) (weight : ℕ) → AreBelow front term
    → put_term (front ++ (term, weight) ∷ []) term ≡ front ++ (term, weight + 1) ∷ []
unfolding put_term
put_last [] term weight below = let same : byte_cmp term term ≡ Equal = tied_itself nat_list_cmp_total term in rw same refl
put_last (pair ∷ front) term weight below =
    let here : byte_cmp term pair.0 ≡ Greater = above pair term (below 0 pair (omega arith)) in
    rw here (ap (λ ps. pair ∷ ps) (put_last front term weight (All-tail (λ (p : List ℕ × ℕ). byte_cmp p.0 term ≡ Less) pair front below)))

below_next : (pairs : List (List ℕ × ℕ)) (last term : List ℕ) → EndsWith pairs last → byte_cmp last term ≡ Less → AreBelow pairs term
below_next pairs last term ends less =
    subst (λ ps. AreBelow ps term) (sym ends.same)
    (All-push (λ (p : List ℕ × ℕ). byte_cmp p.0 term ≡ Less) ends.front (last, ends.weight)
    (λ k d inside. nat_list_cmp_total.trans (get_or ends.front k d).0 last term (ends.below k d inside) less) less)

-- the pairs of the first terms, of which the last ends them
pub record AreRuns (all : List (List ℕ)) (i : ℕ) (pairs : List (List ℕ × ℕ)) : Type 0 where
  pub made : pairs ≡ counted (take i all)
  pub ends : 0 < i → EndsWith pairs (get_or all (i - 1) [])

counted_more : (all : List (List ℕ)) (i : ℕ) → i < length all → counted (take (i + 1) all) ≡ put_term (counted (take i all)) (get_or all i [])
counted_more all i inside = ap counted (take_more all i [] inside) ∙ fold-append put_term [] (take i all) (get_or all i [] ∷ [])

-- no run is longer than the terms so far
pub run_few : (all : List (List ℕ)) (i : ℕ) (pairs : List (List ℕ × ℕ)) (k : ℕ) (d : List ℕ × ℕ) → AreRuns all i pairs → k < length pairs
    → (get_or pairs k d).1 ≤ i
run_few all i pairs k d runs inside =
    let sum : sum_by (λ p. p.1) pairs ≡ length (take i all) = ap (sum_by (λ p. p.1)) runs.made ∙ all_weigh (take i all) [] ∙ zero-add (length (take i all)) in
    omega (arith, get_or-le-sum_by (λ (p : List ℕ × ℕ). p.1) pairs k d inside, sum, length-take i all)

-- after at least one term there are pairs
pub some_runs : (all : List (List ℕ)) (i : ℕ) (pairs : List (List ℕ × ℕ)) → AreRuns all i pairs → 0 < i → 1 ≤ length pairs
some_runs all i pairs runs some =
    let ends = runs.ends some in
    omega (arith, ap length ends.same, length-append ends.front ((get_or all (i - 1) [], ends.weight) ∷ []))

-- the last term again, which gets one more
pub runs_again : (all : List (List ℕ)) (i : ℕ) (pairs more : List (List ℕ × ℕ)) → AreRuns all i pairs → i < length all
    → 0 < i → get_or all i [] ≡ get_or all (i - 1) []
    → ((front : List (List ℕ × ℕ)) (last : List ℕ) (weight : ℕ) → pairs ≡ front ++ (last, weight) ∷ [] → more ≡ front ++ (last, weight + 1) ∷ [])
    → AreRuns all (i + 1) more
runs_again all i pairs more runs inside some again bump =
    let last = get_or all (i - 1) [] in
    let ends = runs.ends some in
    let next : more ≡ ends.front ++ (last, ends.weight + 1) ∷ [] = bump ends.front last ends.weight ends.same in
    let put : put_term pairs last ≡ more = ap (λ ps. put_term ps last) ends.same ∙ put_last ends.front last ends.weight ends.below ∙ sym next in
    let here : i + 1 - 1 ≡ i = omega arith in
    let still : EndsWith more last = record { front = ends.front; weight = ends.weight + 1; same = next; below = ends.below } in
    record {
      made = sym put ∙ ap₂ put_term runs.made (sym again) ∙ sym (counted_more all i inside);
      ends = λ _. subst (EndsWith more) (sym again ∙ ap (λ k. get_or all k []) (sym here)) still;
    }

not_less : (o : Ordering) → is_lt (ordering_reverse o) ≡ false → o ≢ Equal → o ≡ Less
not_less Less order other = refl
not_less Equal order other = absurd (other refl)
not_less Greater order other = absurd (cc)

less_next : (all : List (List ℕ)) (i : ℕ) → IsSorted byte_cmp all → 0 < i → i < length all → get_or all (i - 1) [] ≢ get_or all i []
    → byte_cmp (get_or all (i - 1) []) (get_or all i []) ≡ Less
less_next all i order up inside differ =
    let before = get_or all (i - 1) [] in
    let term = get_or all i [] in
    let here : i - 1 + 1 ≡ i = omega arith in
    let sorted : is_lt (byte_cmp (get_or all (i - 1 + 1) []) before) ≡ false = order (i - 1) [] (omega arith) (omega arith) in
    let turned : is_lt (ordering_reverse (byte_cmp before term)) ≡ false =
    ap is_lt (sym (nat_list_cmp_total.antisymm term before)) ∙ ap (λ k. is_lt (byte_cmp (get_or all k []) before)) (sym here) ∙ sorted in
    not_less (byte_cmp before term) turned (λ equal. differ (equal_from before term equal))

-- another term, which begins a run
pub runs_next : (all : List (List ℕ)) (i : ℕ) (pairs : List (List ℕ × ℕ)) → AreRuns all i pairs → IsSorted byte_cmp all
    → i < length all → (0 < i → get_or all i [] ≢ get_or all (i - 1) []) → AreRuns all (i + 1) (pairs ++ (get_or all i [], 1) ∷ [])
runs_next all i pairs runs order inside differ =
    let term = get_or all i [] in
    let here : i + 1 - 1 ≡ i = omega arith in
    let below : AreBelow pairs term = elim (cases_lt 0 i) [
      | inl some ↦
          below_next pairs (get_or all (i - 1) []) term (runs.ends some) (less_next all i order some inside (λ same. differ some (sym same)))
      | inr none ↦
          let first : i ≡ 0 = omega arith in
          let empty : pairs ≡ [] = runs.made ∙ ap (λ k. counted (take k all)) first in
          subst (λ ps. AreBelow ps term) (sym empty) (All-nil (λ (p : List ℕ × ℕ). byte_cmp p.0 term ≡ Less))
    ] in
    let ends : EndsWith (pairs ++ (term, 1) ∷ []) term = record { front = pairs; weight = 1; same = refl; below = below } in
    record {
      made = sym (put_above pairs term below) ∙ ap (λ ps. put_term ps term) runs.made ∙ sym (counted_more all i inside);
      ends = λ _. subst (EndsWith (pairs ++ (term, 1) ∷ [])) (ap (λ k. get_or all k []) (sym here)) ends;
    }

pub zip_push : {A B : Type 0} (ks : List A) (vs : List B) (k : A) (v : B) → length vs ≡ length ks
    → zip (ks ++ k ∷ []) (vs ++ v ∷ []) ≡ zip ks vs ++ (k, v) ∷ []
zip_push [] [] k v same = refl
zip_push [] (w ∷ vs) k v same = absurd (omega arith)
zip_push (j ∷ ks) [] k v same = absurd (omega arith)
zip_push (j ∷ ks) (w ∷ vs) k v same = ap (λ ps. (j, w) ∷ ps) (zip_push ks vs k v (omega arith))

zip_parts : (front : List (List ℕ × ℕ)) (k : List ℕ) (w : ℕ) → zip (map (λ p. p.0) front ++ k ∷ []) (map (λ p. p.1) front ++ w ∷ []) ≡ front ++ (k, w) ∷ []
zip_parts [] k w = refl
zip_parts (p ∷ front) k w = ap (λ ps. p ∷ ps) (zip_parts front k w)

-- the last pair gets one more
pub zip_bump : (ks : List (List ℕ)) (ws : List ℕ) (run d : ℕ) (front : List (List ℕ × ℕ)) (k : List ℕ) (w : ℕ) → length ws ≡ length ks
    → run + 1 ≡ length ws → zip ks ws ≡ front ++ (k, w) ∷ [] → zip ks (set ws run (get_or ws run d + 1)) ≡ front ++ (k, w + 1) ∷ []
zip_bump ks ws run d front k w same last is =
    let names : ks ≡ map (λ p. p.0) front ++ k ∷ [] = sym (firsts-zip ks ws same) ∙ ap (map (λ p. p.0)) is ∙ map-append (λ (p : List ℕ × ℕ). p.0) front ((k, w) ∷ []) in
    let weights : ws ≡ map (λ p. p.1) front ++ w ∷ [] = sym (seconds-zip ks ws same) ∙ ap (map (λ p. p.1)) is ∙ map-append (λ (p : List ℕ × ℕ). p.1) front ((k, w) ∷ []) in
    let place : run ≡ length (map (λ (p : List ℕ × ℕ). p.1) front) =
    omega (arith, ap length weights, length-append (map (λ (p : List ℕ × ℕ). p.1) front) (w ∷ [])) in
    let here : get_or ws run d ≡ w = ap₂ (λ l i. get_or l i d) weights place ∙ get_or-append_seam (map (λ (p : List ℕ × ℕ). p.1) front) w [] d in
    let bumped : set ws run (get_or ws run d + 1) ≡ map (λ p. p.1) front ++ (w + 1) ∷ [] =
    ap (λ v. set ws run (v + 1)) here ∙ ap₂ (λ l i. set l i (w + 1)) weights place ∙ set-append_seam (map (λ (p : List ℕ × ℕ). p.1) front) w [] (w + 1) in
    ap₂ zip names bumped ∙ zip_parts front k (w + 1)

-- zipped terms and counts have the length of the terms
pub length_zipped : {A B : Type 0} (ks : List A) (vs : List B) → length vs ≡ length ks → length (zip ks vs) ≡ length ks
length_zipped ks vs same = omega (arith, length-zip ks vs, same)

-- the count at a place of the pairs
pub count_at : (terms : List (List ℕ)) (counts : List ℕ) (i seen : ℕ) (d : List ℕ × ℕ) → length counts ≡ length terms → i < length terms
    → seen ≡ get_or counts i seen → seen ≡ (get_or (zip terms counts) i d).1
count_at terms counts i seen d same inside is =
    rw (get_or-zip terms counts i d inside (omega arith)) (is ∙ get_or_default counts i seen d.1 (omega arith))

-- The brackets of a shard, in their order, are its part of the plain ranking, if only rows that score above some number count.
use Rattle.std.proofs.Common.{◌≡◌, ◌<◌, ◌≤◌, ◌+◌, ◌∙◌, ℕ, Bool, true, false, nat_eq, List, length, map, get_or, ap, sym, refl, subst, arith}
use Rattle.std.specs.List.{All, Contains, IsDistinct, filter, range_with_len}
use Rattle.std.specs.List.Sorted.{IsSorted, IsStrictlySortedBy}
use Rattle.std.specs.Ordering.{nat_cmp, eq_by_cmp, is_eq, is_lt, ordering_then}
use Rattle.std.specs.declared.cmp.Ordering.{Ordering}
use Rattle.std.specs.declared.cmp.Ordering.TheVariants.{Less, Equal, Greater}
use Rattle.std.proofs.lemmas.Bool.{eqb-true, ltb-true}
use Rattle.std.proofs.lemmas.Bool.Decides.{nat_tests}
use Rattle.std.proofs.lemmas.Cmp.{eq_by_cmp_equiv}
use Rattle.std.proofs.lemmas.List.{get_or-map, length-map, take_all}
use Rattle.std.proofs.lemmas.List.Elements.{All-filter, filter_passes}
use Rattle.std.proofs.lemmas.List.FromFn.{get_or-range_with_len, length-range_with_len}
use Rattle.std.proofs.lemmas.List.Sorted.{Contains-permutation, IsPermutation-map, length_permutation}
use Rattle.std.proofs.lemmas.List.Kept.{IsStrictlySortedBy-filter}
use Rattle.std.proofs.lemmas.Map.Keys.{IsDistinct-IsPermutation, IsDistinct-from_apart}
use Rattle.ats_bound.specs.declared.bracket.Bracket.{Bracket}
use Rattle.ats_bound.specs.Chosen.{IsChosen, place_cmp}
use Rattle.ats_bound.specs.Settled.{bracket_at}
use Rattle.ats_bound.proofs.Public.{chosen_are_picks}
use Rattle.ats_catalog_honest.specs.Ranking.{IsRankedBy, IsScored, Ranked, ranked_cmp}
use Rattle.ats_catalog_honest.proofs.Above.{is_above, none}
use Rattle.ats_catalog_honest.proofs.Exact.{AreExact}
use Rattle.ats_catalog_honest.proofs.Rankings.{ranked_cmp_exact, ranked_cmp_total}
use Rattle.ats_catalog_honest.proofs.Sorted.{All-filtered, contained_filter, same_elements, strictly_sorted}

-- the row of a bracket
abbrev pub row_of : ℕ → List Bracket → ℕ → Ranked
row_of shard brackets k = record { shard = shard; doc = (bracket_at brackets k).doc; score = (bracket_at brackets k).lo }

-- places, in the order of their brackets: their rows rise, and those above the number are all of this part of a ranking
pub record AreListed (shard unmet : ℕ) (part : List Ranked) (brackets : List Bracket) (order : List ℕ) : Type 0 where
  pub size : length order ≡ length brackets
  pub low : All (λ k. k < length brackets) order
  pub rise : IsStrictlySortedBy ranked_cmp (map (row_of shard brackets) order)
  pub same : (least : ℕ) → unmet ≤ least → filter (is_above least) (map (row_of shard brackets) order) ≡ filter (is_above least) part

-- whether a row is of the shard
abbrev pub is_own : ℕ → Ranked → Bool
is_own shard one = nat_eq one.shard shard

apart_then : (p : Ordering) → is_eq (ordering_then p Less) ≡ false
apart_then Less = refl
apart_then Equal = refl
apart_then Greater = refl

level : (p : Ordering) → ordering_then p p ≡ ordering_then p Equal
level Less = refl
level Equal = refl
level Greater = refl

module _ (size : ℕ → ℕ) (score_of : ℕ → ℕ → ℕ) (all : List Ranked) (ranked : IsRankedBy size score_of all) (shard : ℕ)
    (unmet : ℕ) (brackets : List Bracket) (exact : AreExact (size shard) (score_of shard) unmet brackets) where
  abbrev at : ℕ → Ranked
  at = row_of shard brackets

  abbrev n : ℕ
  n = length brackets

  abbrev part : List Ranked
  part = filter (is_own shard) all

  -- brackets are in the order of the ranking
  same_cmp : (i j : ℕ) → i < n → j < n → ranked_cmp (at i) (at j) ≡ place_cmp brackets i j
  same_cmp i j first second =
      let a : Bracket = bracket_at brackets i in
      let b : Bracket = bracket_at brackets j in
      let p : Ordering = nat_cmp b.lo a.lo in
      let tied : nat_cmp shard shard ≡ Equal = grind (arith, nat_tests) in
      let highs : nat_cmp b.hi a.hi ≡ p = ap (λ h. nat_cmp h a.hi) (exact.each j second).even ∙ ap (λ h. nat_cmp b.lo h) (exact.each i first).even in
      ap (λ q. ordering_then (ordering_then p q) (nat_cmp a.doc b.doc)) tied
      ∙ ap (λ q. ordering_then q (nat_cmp a.doc b.doc)) (sym (level p))
      ∙ ap (λ q. ordering_then (ordering_then p q) (nat_cmp a.doc b.doc)) (sym highs)

  range_at : (i : ℕ) (d : Ranked) → i < n → get_or (map at (range_with_len 0 n)) i d ≡ at i
  range_at i d low =
      get_or-map at (range_with_len 0 n) i 0 d (omega (arith, low, length-range_with_len 0 n)) ∙ ap at (omega (arith, get_or-range_with_len 0 n i 0 low))

  distinct : IsDistinct (eq_by_cmp ranked_cmp) (map at (range_with_len 0 n))
  distinct = IsDistinct-from_apart (eq_by_cmp ranked_cmp) (map at (range_with_len 0 n)) (λ i j d less inside.
      let low : j < n = omega (arith, inside, length-map (range_with_len 0 n) at, length-range_with_len 0 n) in
      let docs : nat_cmp (bracket_at brackets i).doc (bracket_at brackets j).doc ≡ Less = rising i j less low in
      rw (range_at i d (omega (arith, less, low)), range_at j d low, docs) (apart_then _))
    where
      rising : (i j : ℕ) → i < j → j < n → nat_cmp (bracket_at brackets i).doc (bracket_at brackets j).doc ≡ Less
      rising i j less low = let up = exact.rise i j less low in grind (arith, nat_tests)

  module _ (rows : ℕ) (picks : List ℕ) (chosen : IsChosen brackets rows picks) where
    abbrev order : List ℕ
    order = chosen.all

    order_size : length order ≡ n
    order_size = length_permutation (range_with_len 0 n) order chosen.same ∙ length-range_with_len 0 n

    order_low : All (λ k. k < n) order
    order_low = chosen_are_picks brackets n order (record { all = order; same = chosen.same; ordered = chosen.ordered; first = sym (take_all n order (omega (arith, order_size))) })

    abbrev listed : List Ranked
    listed = map at order

    listed_at : (k : ℕ) (d : Ranked) → k < n → get_or listed k d ≡ at (get_or order k 0)
    listed_at k d low = get_or-map at order k 0 d (omega (arith, low, order_size))

    listed_size : length listed ≡ n
    listed_size = length-map order at ∙ order_size

    sorted : IsSorted ranked_cmp listed
    sorted k d low inside =
        let next : k + 1 < n = omega (arith, inside, listed_size) in
        let this : k < n = omega (arith, next) in
        let same : ranked_cmp (get_or listed (k + 1) d) (get_or listed k d) ≡ place_cmp brackets (get_or order (k + 1) 0) (get_or order k 0) =
        ap (λ (x : Ranked). ranked_cmp x (get_or listed k d)) (listed_at (k + 1) d next) ∙ ap (λ (x : Ranked). ranked_cmp (at (get_or order (k + 1) 0)) x) (listed_at k d this)
        ∙ same_cmp (get_or order (k + 1) 0) (get_or order k 0) (order_low (k + 1) 0 (omega (arith, next, order_size))) (order_low k 0 (omega (arith, this, order_size))) in
        ap is_lt same ∙ chosen.ordered k 0 (omega arith) (omega (arith, next, order_size))

    listed_in_part : All (Contains part) listed
    listed_in_part k d low =
        let inside : k < n = omega (arith, low, listed_size) in
        let place : ℕ = get_or order k 0 in
        let is = exact.each place (order_low k 0 (omega (arith, inside, order_size))) in
        let own : nat_eq shard shard ≡ true = grind (arith, nat_tests) in
        let there : Contains all (at place) = ranked.whole (at place) (record { inside = is.inside; some = is.some; score = is.score }) in
        subst (Contains part) (sym (listed_at k d inside)) (contained_filter (is_own shard) all (at place) own there)

    place_listed : (place : ℕ) → place < n → Contains listed (at place)
    place_listed place low =
        let found : Contains order place = Contains-permutation (range_with_len 0 n) order place chosen.same
        (place, omega (arith, low, length-range_with_len 0 n), omega (arith, get_or-range_with_len 0 n place place low)) in
        (found.0, omega (arith, found.1, length-map order at), get_or-map at order found.0 place (at place) found.1 ∙ ap at found.2)

    listed_sorted : IsStrictlySortedBy ranked_cmp listed
    listed_sorted =
        strictly_sorted ranked_cmp ranked_cmp_total listed none
        (IsDistinct-IsPermutation (eq_by_cmp ranked_cmp) (eq_by_cmp_equiv ranked_cmp_total).symm (map at (range_with_len 0 n)) listed
        (IsPermutation-map at (range_with_len 0 n) order chosen.same) distinct) sorted

    module _ (least : ℕ) (few : unmet ≤ least) where
      abbrev above : Ranked → Bool
      above = is_above least

      part_in_listed : (k : ℕ) (d : Ranked) → k < length part → above (get_or part k d) ≡ true → Contains listed (get_or part k d)
      part_in_listed k d low test =
          let one : Ranked = get_or part k d in
          let own : one.shard ≡ shard = eqb-true one.shard shard (filter_passes (is_own shard) all k d low) in
          let is : IsScored size score_of one = All-filter (is_own shard) (IsScored size score_of) all ranked.each k d low in
          let inside : one.doc < size shard = subst (λ (s : ℕ). one.doc < size s) own is.inside in
          let score : one.score ≡ score_of shard one.doc = is.score ∙ ap (λ s. score_of s one.doc) own in
          let found = exact.whole one.doc inside (omega (arith, ltb-true least one.score test, score, few)) in
          let lo : (bracket_at brackets found.0).lo ≡ one.score = (exact.each found.0 found.1).score ∙ ap (score_of shard) found.2 ∙ sym score in
          let same : at found.0 ≡ one = same_ranked found.0 one own found.2 lo in
          subst (Contains listed) same (place_listed found.0 found.1)
        where
          same_ranked : (place : ℕ) (one : Ranked) → one.shard ≡ shard → (bracket_at brackets place).doc ≡ one.doc → (bracket_at brackets place).lo ≡ one.score → at place ≡ one
          same_ranked place one own doc lo i = record { shard = sym own i; doc = doc i; score = lo i }

      above_same : filter above listed ≡ filter above part
      above_same =
          same_elements ranked_cmp ranked_cmp_total ranked_cmp_exact (filter above listed) (filter above part)
          (IsStrictlySortedBy-filter ranked_cmp above listed listed_sorted) (IsStrictlySortedBy-filter ranked_cmp above part (IsStrictlySortedBy-filter ranked_cmp (is_own shard) all ranked.ordered))
          (All-filtered (Contains (filter above part)) above listed (λ k d low test. contained_filter above part (get_or listed k d) test (listed_in_part k d low)))
          (All-filtered (Contains (filter above listed)) above part (λ k d low test. contained_filter above listed (get_or part k d) test (part_in_listed k d low test)))

    pub are_listed : AreListed shard unmet part brackets order
    are_listed = record { size = order_size; low = order_low; rise = listed_sorted; same = above_same }

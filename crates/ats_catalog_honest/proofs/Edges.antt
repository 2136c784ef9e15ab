-- The shares of a plain ranking: its edges fall, enclose the scores of its rows, and leave nothing over if it has fewer than r.
use Rattle.std.proofs.Common.{◌≡◌, ◌⊎◌, ◌<◌, ◌≤◌, ◌+◌, ◌-◌, ◌^◌, ℕ, zero, suc, min, true, false, nat_eq, nat_lt, leb, List, [], length, map, take, get_or, refl, sym, ap, subst, ◌∙◌, inl, inr, arith, length-take}
use Rattle.std.specs.List.{All}
use Rattle.std.specs.List.Sorted.{IsStrictlySortedBy}
use Rattle.std.specs.Ordering.{nat_cmp}
use Rattle.std.specs.declared.cmp.Ordering.TheVariants.{Less, Greater}
use Rattle.std.proofs.lemmas.Bool.{cases_lt, cases_order}
use Rattle.std.proofs.lemmas.Bool.Decides.{nat_tests}
use Rattle.std.proofs.lemmas.List.{length-map, get_or_past}
use Rattle.std.proofs.lemmas.List.Elements.{All-map, All-take}
use Rattle.std.proofs.lemmas.Map.Keys.{Less-from_sorted}
use Rattle.ats_commit.specs.Archive.{Archive, archive_of}
use Rattle.ats_proof.specs.declared.record.Algorithm.{Algorithm}
use Rattle.ats_proof.specs.declared.record.Algorithm.TheVariants.{Tra, Tnra}
use Rattle.ats_catalog_bytes.specs.Catalog.{archive_at}
use Rattle.ats_catalog_check.specs.Headline.{score_in, size_in}
use Rattle.ats_catalog_honest.specs.Ranking.{IsRankedBy, Ranked, below, between, edge, ranked_at, ranked_cmp, shares_of}
use Rattle.ats_catalog_honest.specs.Shares.{AreEdges}

abbrev none : Ranked
none = record { shard = 0; doc = 0; score = 0 }

pub score_le : (a b : Ranked) → ranked_cmp a b ≡ Less → b.score ≤ a.score
score_le a b is = elim (cases_lt a.score b.score) [
  | inr le ↦ le
  | inl less ↦
      let test : nat_cmp b.score a.score ≡ Greater = grind (arith, nat_tests) in
      let clash : Greater ≡ Less = rw test at is in
      absurd (cc)
]

between_both : (a : Algorithm) (score next : ℕ) → next ≤ score → (next ≤ between a score next) × (between a score next ≤ score)
between_both Tra score next le = (le, omega arith)
between_both Tnra score next le = (omega (arith, le), omega (arith, le))

module _ (by : ℕ → Algorithm) (r : ℕ) (all : List Ranked) (sorted : IsStrictlySortedBy ranked_cmp all) where
  abbrev score : ℕ → ℕ
  score j = (ranked_at all j).score

  falls : (i j : ℕ) → i ≤ j → score j ≤ score i
  falls i j less = elim (cases_lt j (length all)) [
    | inr past ↦ omega (arith, ap (λ (one : Ranked). one.score) (get_or_past all j none past))
    | inl low ↦ elim (cases_order i j) [
      | inl same ↦ omega (arith, ap score same)
      | inr (inl before) ↦ score_le (ranked_at all i) (ranked_at all j) (Less-from_sorted ranked_cmp all i j none sorted before low)
      | inr (inr after) ↦ absurd (omega (arith, less, after))
    ]
  ]

  below_both : (j : ℕ) → (score (j + 1) ≤ below by all j) × (below by all j ≤ score j)
  below_both j = between_both (by (ranked_at all j).shard) (score j) (score (j + 1)) (falls j (j + 1) (omega arith))

  -- the edge below a row is as it should be, but if the ranking ends there too early
  edge_is : (j : ℕ) → (suc j < length all) ⊎ (r ≤ length all) → edge by r all (suc j) ≡ below by all j
  edge_is j (inl more) =
      let test : leb (length all) (suc j) ≡ false = grind (arith, nat_tests) in
      elim (cases_lt (length all) r) [
        | inl few ↦
            let also : nat_lt (length all) r ≡ true = grind (arith, nat_tests) in
            rw (also, test) refl
        | inr full ↦
            let also : nat_lt (length all) r ≡ false = grind (arith, nat_tests) in
            rw also refl
      ]
  edge_is j (inr full) =
      let test : nat_lt (length all) r ≡ false = grind (arith, nat_tests) in
      rw test refl

  edge_ended : (j : ℕ) → length all < r → length all ≤ suc j → edge by r all (suc j) ≡ 0
  edge_ended j few past =
      let test : nat_lt (length all) r ≡ true = grind (arith, nat_tests) in
      let also : leb (length all) (suc j) ≡ true = grind (arith, nat_tests) in
      rw (test, also) refl

  edge_most : (j : ℕ) → edge by r all (suc j) ≤ score j
  edge_most j = elim (cases_lt (suc j) (length all)) [
    | inl more ↦ omega (arith, edge_is j (inl more), (below_both j).1)
    | inr past ↦ elim (cases_lt (length all) r) [
      | inl few ↦ omega (arith, edge_ended j few past)
      | inr full ↦ omega (arith, edge_is j (inr full), (below_both j).1)
    ]
  ]

  edge_least : (j : ℕ) → (suc j < length all) ⊎ (r ≤ length all) → score (j + 1) ≤ edge by r all (suc j)
  edge_least j more = omega (arith, edge_is j more, (below_both j).0)

  abbrev rows : ℕ
  rows = length (map (λ (one : Ranked). one.shard) (take r all))

  pub rows_are : rows ≡ min r (length all)
  rows_are = length-map (take r all) (λ (one : Ranked). one.shard) ∙ length-take r all

  pub edges_fall : AreEdges (shares_of by r all)
  edges_fall zero j some less few = absurd (omega (arith, some))
  edges_fall (suc i) zero some less few = absurd (omega (arith, less))
  edges_fall (suc i) (suc j) some less few = elim (cases_order i j) [
    | inl same ↦ subst (λ n. edge by r all (suc j) ≤ edge by r all (suc n)) (sym same) (omega arith)
    | inr (inr after) ↦ absurd (omega (arith, after, less))
    | inr (inl before) ↦ omega (arith, edge_least i (inl (omega (arith, before, few, rows_are))), falls (i + 1) j (omega (arith, before)), edge_most j)
  ]

  -- the last edge is the least
  pub last_least : (j : ℕ) → j < min r (length all) → edge by r all rows ≤ edge by r all (j + 1)
  last_least j low = edges_fall (j + 1) rows (omega arith) (omega (arith, low, rows_are)) (omega arith)

  pub few_rows : rows ≤ r
  few_rows = omega (arith, rows_are)

  last_edge : (n : ℕ) → n ≡ length all → length all < r → edge by r all n ≡ 0
  last_edge zero is few =
      let test : nat_eq (length all) 0 ≡ true = grind (arith, nat_tests) in
      rw test refl
  last_edge (suc n) is few = edge_ended n few (omega (arith, is))

  pub whole_rows : 1 ≤ r → ((1 ≤ r) × (rows ≡ r)) ⊎ (edge by r all rows ≡ 0)
  whole_rows some = elim (cases_lt (length all) r) [
    | inl few ↦ inr (last_edge rows (omega (arith, rows_are, few)) few)
    | inr full ↦ inl (some, omega (arith, rows_are, full))
  ]

  -- ---- scores are within the edges, if they fit into 64 bits

  module _ (fit : (j : ℕ) → score j < 2 ^ 64) where
    first_edge : 1 ≤ length all → edge by r all 0 ≡ 2 ^ 64 - 1
    first_edge some =
        let test : nat_eq (length all) 0 ≡ false = grind (arith, nat_tests) in
        rw test refl

    upper_edge : (j : ℕ) → (j < length all) → score j ≤ edge by r all j
    upper_edge zero low = omega (arith, first_edge (omega (arith, low)), fit 0)
    upper_edge (suc j) low =
        let next : j + 1 ≡ suc j = omega arith in
        subst (λ n. score n ≤ edge by r all (suc j)) next (edge_least j (inl low))

    -- row j is within its span
    pub in_span : (j : ℕ) → j < length all → (edge by r all (j + 1) ≤ score j) × (score j ≤ edge by r all j)
    in_span j low =
        let next : suc j ≡ j + 1 = omega arith in
        (subst (λ n. edge by r all n ≤ score j) next (edge_most j), upper_edge j low)

    floor_at : (n j : ℕ) → n ≡ min r (length all) → r ≤ j → j < length all → score j ≤ edge by r all n
    floor_at zero j is past low = omega (arith, first_edge (omega (arith, low)), fit j)
    floor_at (suc n) j is past low = omega (arith, edge_least n (inr (omega (arith, past, low))), falls (n + 1) j (omega (arith, is, past)))

    -- rows that are not asked are not above the last edge
    pub on_floor : (j : ℕ) → r ≤ j → j < length all → score j ≤ edge by r all rows
    on_floor j past low = floor_at rows j rows_are past low

-- a shard that has a document is there
pub is_there : (catalog : List Archive) (shard doc : ℕ) → doc < size_in catalog shard → shard < length catalog
is_there catalog shard doc inside = elim (cases_lt shard (length catalog)) [
  | inl low ↦ low
  | inr past ↦
      let nothing : archive_at catalog shard ≡ archive_of [] = get_or_past catalog shard (archive_of []) past in
      absurd (omega (arith, inside, ap (λ (a : Archive). length a.texts) nothing))
]

pub owners_there : (catalog : List Archive) (query : List (List ℕ × ℕ)) (r : ℕ) (all : List Ranked)
    → IsRankedBy (size_in catalog) (score_in catalog query) all → All (λ owner. owner < length catalog) (map (λ (one : Ranked). one.shard) (take r all))
owners_there catalog query r all ranked =
    let Is : Ranked → Type 0 = λ (one : Ranked). one.shard < length catalog in
    let every : All Is all = λ k d low. is_there catalog (get_or all k d).shard (get_or all k d).doc (ranked.each k d low).inside in
    All-map (λ owner. owner < length catalog) (λ (one : Ranked). one.shard) (take r all) (All-take Is r all every)

-- Rows of all shards that are settled by the rests of the shards are a top answer.
use Rattle.std.proofs.Common.{◌≡◌, ◌⊎◌, ◌<◌, ◌≤◌, ◌+◌, ◌-◌, ℕ, zero, suc, true, false, nat_eq, List, [], ◌∷◌, length, map, refl, sym, subst, inl, inr, arith}
use Rattle.std.specs.List.{All}
use Rattle.std.proofs.lemmas.Bool.{cases_lt, cases_order}
use Rattle.std.proofs.lemmas.Bool.Decides.{nat_tests}
use Rattle.std.proofs.lemmas.List.{get_or_past}
use Rattle.std.proofs.lemmas.List.Elements.{All-nil, All-map}
use Rattle.ats_impact.specs.Rank.{times as times_in}
use Rattle.ats_impact.specs.declared.rank.Row.{Row}
use Rattle.ats_catalog_check.specs.declared.row.CatalogRow.{CatalogRow}
use Rattle.ats_catalog_check.specs.Merge.{Shown, shown_at, in_shard, merged, last_of, floor, greatest_rest, IsSettled}
use Rattle.ats_catalog_check.specs.Inner.Rests.{IsBounded, AreBounded}
use Rattle.ats_catalog_check.specs.Top.{times, score_of_row, HoldsRow, AreRightBy}
use Rattle.ats_catalog_check.proofs.Steps.{all_from}
use Rattle.ats_catalog_check.proofs.Tagged.{docs, times_merged}

-- the row is of a document that scores, between the row's bounds
record IsGood (size : ℕ → ℕ) (score_of : ℕ → ℕ → ℕ) (row : CatalogRow) : Type 0 where
  inside : row.doc < size row.shard
  scores : 0 < score_of_row score_of row
  holds : HoldsRow score_of row

one_good : (size : ℕ → ℕ) (score_of : ℕ → ℕ → ℕ) (shard : ℕ) (one : Shown) → IsBounded (size shard) (score_of shard) one
    → All (IsGood size score_of) (map (in_shard shard) one.rows)
one_good size score_of shard one right =
    All-map (IsGood size score_of) (in_shard shard) one.rows (λ (k : ℕ) (e : Row) (low : k < length one.rows).
    let scoring = right.scoring k e low in
    let bounds = right.bounds k e low in
    record { inside = scoring.0; scores = scoring.1; holds = record { least = bounds.0; most = bounds.1 } })

within_greatest : (shards : List Shown) (i : ℕ) → i < length shards → (shown_at shards i).rest ≤ greatest_rest shards
within_greatest [] i low = absurd (omega (arith, low))
within_greatest (one ∷ more) zero low = omega arith
within_greatest (one ∷ more) (suc i) low = omega (arith, within_greatest more i (omega (arith, low)))

-- the floor of r rows, and that of another number of rows
pub floor_full : (r : ℕ) (rows : List CatalogRow) → length rows ≡ r → floor r rows ≡ (last_of rows).lower
floor_full r rows full = let test : nat_eq (length rows) r ≡ true = grind (arith, nat_tests) in rw test refl

pub floor_short : (r : ℕ) (rows : List CatalogRow) → (length rows < r) ⊎ (r < length rows) → floor r rows ≡ 0
floor_short r rows short = let test : nat_eq (length rows) r ≡ false = grind (arith, nat_tests) in rw test refl

module _ (size : ℕ → ℕ) (score_of : ℕ → ℕ → ℕ) (shards : List Shown) (r : ℕ) (right : AreBounded size score_of shards) (settled : IsSettled r shards) where
  abbrev rows : List CatalogRow
  rows = merged shards

  abbrev e : CatalogRow
  e = record { shard = 0; doc = 0; lower = 0; upper = 0 }

  abbrev score : CatalogRow → ℕ
  score row = score_of_row score_of row

  every : All (IsGood size score_of) rows
  every = all_from (IsGood size score_of) 0 [] shards (All-nil (IsGood size score_of)) (λ i low.
      let is : 0 + i ≡ i = omega arith in
      subst (λ (n : ℕ). All (IsGood size score_of) (map (in_shard n) (shown_at shards i).rows)) (sym is)
      (one_good size score_of i (shown_at shards i) (right.each i low)))

  counted : (shard doc : ℕ) → times shard doc rows ≡ times_in doc (docs (shown_at shards shard).rows)
  counted shard doc = times_merged shard doc shards

  in_some : (shard doc : ℕ) → doc < size shard → shard < length shards
  in_some shard doc inside = elim (cases_lt shard (length shards)) [
    | inl low ↦ low
    | inr past ↦ absurd (omega (arith, inside, right.only shard past))
  ]

  shown_once : (shard doc : ℕ) → times_in doc (docs (shown_at shards shard).rows) ≤ 1
  shown_once shard doc = elim (cases_lt shard (length shards)) [
    | inl low ↦ (right.each shard low).once doc
    | inr past ↦
        let is : shown_at shards shard ≡ record { rows = []; rest = 0 } = get_or_past shards shard _ past in
        subst (λ (one : Shown). times_in doc (docs one.rows) ≤ 1) (sym is) (omega arith)
  ]

  -- a document that is no row scores at most the floor
  outside : (shard doc : ℕ) → doc < size shard → times shard doc rows ≡ 0 → score_of shard doc ≤ floor r rows
  outside shard doc inside absent =
      let low : shard < length shards = in_some shard doc inside in
      let below : score_of shard doc ≤ (shown_at shards shard).rest = (right.each shard low).others doc inside (omega (arith, counted shard doc, absent)) in
      omega (arith, below, within_greatest shards shard low, settled.rests)

  below_last : (shard doc : ℕ) → doc < size shard → times shard doc rows ≡ 0 → 0 < length rows → score_of shard doc ≤ score (last_of rows)
  below_last shard doc inside absent some =
      let least = (every (length rows - 1) e (omega arith)).holds.least in
      elim (cases_order (length rows) r) [
        | inl full ↦ omega (arith, outside shard doc inside absent, floor_full r rows full, least)
        | inr short ↦ omega (arith, outside shard doc inside absent, floor_short r rows short)
      ]

  whole : (length rows ≡ r) ⊎ ((shard doc : ℕ) → doc < size shard → times shard doc rows ≡ 0 → score_of shard doc ≡ 0)
  whole = elim (cases_order (length rows) r) [
    | inl full ↦ inl full
    | inr short ↦ inr (λ (shard : ℕ) (doc : ℕ) (inside : doc < size shard) (absent : times shard doc rows ≡ 0).
        omega (arith, outside shard doc inside absent, floor_short r rows short))
  ]

  pub rests_are_right : AreRightBy size score_of r rows
  rests_are_right = record {
    top = record {
      once = λ shard doc. omega (arith, counted shard doc, shown_once shard doc);
      most = settled.falling.most;
      scoring = λ k d low. ((every k d low).inside, (every k d low).scores);
      falling = λ k inside. omega (arith, settled.falling.fall k inside, (every (k + 1) e inside).holds.most, (every k e (omega arith)).holds.least);
      whole = whole;
      rest = below_last;
    };
    bounds = λ k d low. (every k d low).holds;
  }

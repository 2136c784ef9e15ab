-- How often a document of a shard is among the rows that shards show.
use Rattle.std.proofs.Common.{◌≡◌, ◌⊎◌, ◌<◌, ◌+◌, ◌&&◌, ℕ, zero, suc, Bool, true, false, cond, nat_eq, List, [], ◌∷◌, ◌++◌, map, refl, ap, inl, inr, arith}
use Rattle.std.proofs.lemmas.Bool.Decides.{nat_tests}
use Rattle.std.proofs.lemmas.List.Sums.{sum_by-cons, sum_by-append}
use Rattle.ats_impact.specs.Rank.{times as times_in}
use Rattle.ats_impact.specs.declared.rank.Row.{Row}
use Rattle.ats_catalog_check.specs.declared.row.CatalogRow.{CatalogRow}
use Rattle.ats_catalog_check.specs.Merge.{Shown, shown_at, in_shard, merge, merged_from, merged}
use Rattle.ats_catalog_check.specs.Top.{times}
use Rattle.ats_catalog_check.proofs.Merges.{count_merged}

abbrev pub docs : List Row → List ℕ
docs rows = map (λ (row : Row). row.doc) rows

-- 1 if the row is of this document of the shard, else 0
pub hit : ℕ → ℕ → CatalogRow → ℕ
hit shard doc row = cond (nat_eq row.shard shard && nat_eq row.doc doc) 1 0

-- the rows that the shards from this number on show, shard by shard
abbrev shown_from : ℕ → List Shown → List CatalogRow
shown_from shard [] = []
shown_from shard (one ∷ more) = map (in_shard shard) one.rows ++ shown_from (shard + 1) more

pub times_cons : (shard doc : ℕ) (row : CatalogRow) (rows : List CatalogRow)
    → times shard doc (row ∷ rows) ≡ hit shard doc row + times shard doc rows
unfolding hit
times_cons shard doc row rows = sum_by-cons (λ (one : CatalogRow). cond (nat_eq one.shard shard && nat_eq one.doc doc) 1 0) row rows

times_append : (shard doc : ℕ) (a b : List CatalogRow) → times shard doc (a ++ b) ≡ times shard doc a + times shard doc b
times_append shard doc a b = sum_by-append (λ (one : CatalogRow). cond (nat_eq one.shard shard && nat_eq one.doc doc) 1 0) a b

hit_other : (shard doc : ℕ) (row : CatalogRow) → ((row.shard < shard) ⊎ (shard < row.shard)) → hit shard doc row ≡ 0
unfolding hit
hit_other shard doc row other =
    let no : nat_eq row.shard shard ≡ false = grind (arith, nat_tests) in
    ap (λ (b : Bool). cond (b && nat_eq row.doc doc) 1 0) no

hit_same : (shard doc : ℕ) (row : CatalogRow) → row.shard ≡ shard → hit shard doc row ≡ cond (nat_eq row.doc doc) 1 0
unfolding hit
hit_same shard doc row same =
    let yes : nat_eq row.shard shard ≡ true = grind (arith, nat_tests) in
    ap (λ (b : Bool). cond (b && nat_eq row.doc doc) 1 0) yes

tagged_other : (shard doc first : ℕ) (rows : List Row) → ((first < shard) ⊎ (shard < first))
    → times shard doc (map (in_shard first) rows) ≡ 0
tagged_other shard doc first [] other = refl
tagged_other shard doc first (row ∷ rows) other =
    omega (
      arith,
      times_cons shard doc (in_shard first row) (map (in_shard first) rows),
      hit_other shard doc (in_shard first row) other,
      tagged_other shard doc first rows other,
    )

tagged_same : (shard doc first : ℕ) (rows : List Row) → first ≡ shard
    → times shard doc (map (in_shard first) rows) ≡ times_in doc (docs rows)
tagged_same shard doc first [] same = refl
tagged_same shard doc first (row ∷ rows) same =
    omega (
      arith,
      times_cons shard doc (in_shard first row) (map (in_shard first) rows),
      hit_same shard doc (in_shard first row) same,
      sum_by-cons (λ x. cond (nat_eq x doc) 1 0) row.doc (docs rows),
      tagged_same shard doc first rows same,
    )

before_none : (shard doc first : ℕ) (shards : List Shown) → shard < first → times shard doc (shown_from first shards) ≡ 0
before_none shard doc first [] less = refl
before_none shard doc first (one ∷ more) less =
    omega (
      arith,
      times_append shard doc (map (in_shard first) one.rows) (shown_from (first + 1) more),
      tagged_other shard doc first one.rows (inr less),
      before_none shard doc (first + 1) more (omega arith),
    )

-- a document is shown as often as its own shard shows it
pub times_shown : (shard doc first i : ℕ) (shards : List Shown) → shard ≡ first + i
    → times shard doc (shown_from first shards) ≡ times_in doc (docs (shown_at shards i).rows)
times_shown shard doc first i [] is = refl
times_shown shard doc first zero (one ∷ more) is =
    omega (
      arith,
      times_append shard doc (map (in_shard first) one.rows) (shown_from (first + 1) more),
      tagged_same shard doc first one.rows (omega arith),
      before_none shard doc (first + 1) more (omega arith),
    )
times_shown shard doc first (suc i) (one ∷ more) is =
    omega (
      arith,
      times_append shard doc (map (in_shard first) one.rows) (shown_from (first + 1) more),
      tagged_other shard doc first one.rows (inl (omega arith)),
      times_shown shard doc (first + 1) i more (omega arith),
    )

-- so is it in the merge
times_from : (shard doc first : ℕ) (rows : List CatalogRow) (shards : List Shown)
    → times shard doc (merged_from first rows shards) ≡ times shard doc rows + times shard doc (shown_from first shards)
times_from shard doc first rows [] = omega arith
times_from shard doc first rows (one ∷ more) =
    omega (
      arith,
      times_from shard doc (first + 1) (merge rows (map (in_shard first) one.rows)) more,
      count_merged (λ (row : CatalogRow). nat_eq row.shard shard && nat_eq row.doc doc) rows (map (in_shard first) one.rows),
      times_append shard doc (map (in_shard first) one.rows) (shown_from (first + 1) more),
    )

pub times_merged : (shard doc : ℕ) (shards : List Shown) → times shard doc (merged shards) ≡ times_in doc (docs (shown_at shards shard).rows)
times_merged shard doc shards = omega (arith, times_from shard doc 0 [] shards, times_shown shard doc 0 shard shards (omega arith))

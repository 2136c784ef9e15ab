-- The rows of shards merged one by one.
use Rattle.std.proofs.Common.{◌≡◌, ◌≢◌, ◌<◌, ◌≤◌, ◌+◌, ◌-◌, ◌++◌, ◌∙◌, ◌↔◌, ℕ, zero, suc, Bool, true, false, List, [], ◌∷◌, length, map, max, take, refl, sym, ap, subst, inl, inr, arith, IsTrue}
use Rattle.std.specs.List.{All}
use Rattle.std.proofs.lemmas.Bool.{cases_Bool}
use Rattle.std.proofs.lemmas.List.{take_more, take_all}
use Rattle.std.proofs.lemmas.List.Elements.{All-nil, All-map, All-take}
use Rattle.ats_impact.specs.declared.rank.Row.{Row}
use Rattle.ats_catalog_check.specs.declared.row.CatalogRow.{CatalogRow}
use Rattle.ats_catalog_check.specs.Merge.{Shown, in_shard, merge, merged_from, merged, greatest_rest, row_at, shown_at, AreFalling}
use Rattle.ats_catalog_check.specs.Inner.Places.{IsPlace, AreOrdered, put_in}
use Rattle.ats_catalog_check.specs.Inner.Kept.{AreBefore, IsKeptIf, HasOrdered}
use Rattle.ats_catalog_check.proofs.Merges.{HasPlace, merged_place, merge_none, all_merged}
use Rattle.ats_catalog_check.proofs.Falls.{falling_without, merged_is_place, nothing}

-- ---- the rows of one shard

module _ (r shard : ℕ) (rows later : List CatalogRow) (before : AreBefore shard rows) (ordered : AreOrdered rows)
    (own : All (λ (row : CatalogRow). row.shard ≡ shard) later) (also : AreOrdered later) where
  abbrev Placed : ℕ → Type 0
  Placed i = HasPlace (row_at later i) (λ x. x.shard ≡ (row_at later i).shard) (λ x. x.shard ≢ (row_at later i).shard)
      (merge rows (take i later)) (merge rows (take (i + 1) later)) (length (take i later))

  part : (P : CatalogRow → Type 0) → All P later → (i : ℕ) → All P (take i later)
  part P each i = All-take P i later each

  placed : (i : ℕ) → i < length later → Placed i
  placed i low =
      let here : (row_at later i).shard ≡ shard = own i nothing low in
      subst (λ (l : List CatalogRow). HasPlace (row_at later i) (λ x. x.shard ≡ (row_at later i).shard) (λ x. x.shard ≢ (row_at later i).shard)
      (merge rows (take i later)) (merge rows l) (length (take i later))) (sym (take_more later i nothing low))
      (merged_place (row_at later i) (λ x. x.shard ≡ (row_at later i).shard) (λ x. x.shard ≢ (row_at later i).shard) rows
      (λ k d inside same. omega (arith, before k d inside, same, here)) (take i later)
      (λ k d inside. part (λ x. x.shard ≡ shard) own i k d inside ∙ sym here))

  all_ordered : (i : ℕ) → AreOrdered (merge rows (take i later))
  all_ordered i = all_merged (λ (row : CatalogRow). row.lower ≤ row.upper) rows (take i later) ordered (part (λ (row : CatalogRow). row.lower ≤ row.upper) also i)

  -- one row more
  pub row_more : (i : ℕ) (kept next : List CatalogRow) (fall : Bool) → i < length later → kept ≡ merge rows (take i later) → AreFalling r kept
      → ((place : ℕ) → IsPlace (row_at later i) kept place
      → (IsTrue fall ↔ AreFalling r (put_in (row_at later i) kept place)) × (fall ≡ true → next ≡ put_in (row_at later i) kept place))
      → IsKeptIf r fall next (merge rows (take (i + 1) later))
  row_more i kept next fall low is falling puts =
      let found = placed i low in
      let so_far : List CatalogRow = merge rows (take i later) in
      let falls : AreFalling r so_far = subst (AreFalling r) is falling in
      let place : IsPlace (row_at later i) kept found.place =
      subst (λ (l : List CatalogRow). IsPlace (row_at later i) l found.place) (sym is)
      (merged_is_place r (row_at later i) so_far _ found.place falls (all_ordered i) found.is) in
      let told = puts found.place place in
      let whole : put_in (row_at later i) kept found.place ≡ merge rows (take (i + 1) later) =
      ap (λ (l : List CatalogRow). put_in (row_at later i) l found.place) is ∙ sym found.is.put in
      record {
        falls = subst (λ (l : List CatalogRow). IsTrue fall ↔ AreFalling r l) whole told.0;
        rows = λ yes. told.1 yes ∙ whole;
      }

  -- rows that fall did so with fewer
  falling_before : (i : ℕ) → i < length later → AreFalling r (merge rows (take (i + 1) later)) → AreFalling r (merge rows (take i later))
  falling_before i low falling =
      let found = placed i low in
      falling_without r (row_at later i) (merge rows (take i later)) found.place found.is.inside (also i nothing low)
      (subst (AreFalling r) found.is.put falling)

  pub falling_front : (more i : ℕ) → i + more ≤ length later → AreFalling r (merge rows (take (i + more) later)) → AreFalling r (merge rows (take i later))
  falling_front zero i inside falling = subst (λ (n : ℕ). AreFalling r (merge rows (take n later))) (omega arith) falling
  falling_front (suc more) i inside falling =
      falling_front more i (omega (arith, inside))
      (falling_before (i + more) (omega (arith, inside)) (subst (λ (n : ℕ). AreFalling r (merge rows (take n later))) (omega arith) falling))

  -- the first row that is not taken decides of all
  pub none_later : (i : ℕ) → i ≤ length later → (AreFalling r (merge rows (take i later)) → ⊥) → AreFalling r (merge rows later) → ⊥
  none_later i low not falling =
      let whole : i + (length later - i) ≡ length later = omega (arith, low) in
      not (falling_front (length later - i) i (omega (arith, whole))
      (subst (λ (l : List CatalogRow). AreFalling r (merge rows l)) (sym (take_all (i + (length later - i)) later (omega (arith, whole)))) falling))

  pub no_rows : AreFalling r (merge rows later) → AreFalling r rows
  no_rows falling =
      subst (AreFalling r) (merge_none rows) (falling_front (length later) 0 (omega arith)
      (subst (λ (l : List CatalogRow). AreFalling r (merge rows l)) (sym (take_all (0 + length later) later (omega arith))) falling))

-- ---- shard by shard

-- what holds of the rows, and of those of each shard, holds of the merge
pub all_from : (P : CatalogRow → Type 0) (first : ℕ) (rows : List CatalogRow) (shards : List Shown) → All P rows
    → ((i : ℕ) → i < length shards → All P (map (in_shard (first + i)) (shown_at shards i).rows)) → All P (merged_from first rows shards)
all_from P first rows [] each next = each
all_from P first rows (one ∷ more) each next =
    let here : first + 0 ≡ first = omega arith in
    let now : All P (map (in_shard first) one.rows) = subst (λ (n : ℕ). All P (map (in_shard n) one.rows)) here (next 0 (omega arith)) in
    all_from P (first + 1) (merge rows (map (in_shard first) one.rows)) more (all_merged P rows (map (in_shard first) one.rows) each now)
    (λ i low.
    let on : first + suc i ≡ (first + 1) + i = omega arith in
    subst (λ (n : ℕ). All P (map (in_shard n) (shown_at more i).rows)) on (next (suc i) (omega (arith, low))))

merged_more : (first : ℕ) (rows : List CatalogRow) (xs : List Shown) (one : Shown)
    → merged_from first rows (xs ++ one ∷ []) ≡ merge (merged_from first rows xs) (map (in_shard (first + length xs)) one.rows)
merged_more first rows [] one =
    let same : first ≡ first + 0 = omega arith in
    ap (λ (n : ℕ). merge rows (map (in_shard n) one.rows)) same
merged_more first rows (x ∷ xs) one =
    let same : (first + 1) + length xs ≡ first + suc (length xs) = omega arith in
    merged_more (first + 1) (merge rows (map (in_shard first) x.rows)) xs one
    ∙ ap (λ (n : ℕ). merge (merged_from (first + 1) (merge rows (map (in_shard first) x.rows)) xs) (map (in_shard n) one.rows)) same

-- the greatest rest with one shard more
pub rest_more : (xs : List Shown) (one : Shown) → greatest_rest (xs ++ one ∷ []) ≡ max (greatest_rest xs) one.rest
rest_more [] one = omega arith
rest_more (x ∷ xs) one = omega (arith, rest_more xs one)

pub tagged_own : (shard : ℕ) (rows : List Row) → All (λ (row : CatalogRow). row.shard ≡ shard) (map (in_shard shard) rows)
tagged_own shard rows = All-map (λ (row : CatalogRow). row.shard ≡ shard) (in_shard shard) rows (λ k d low. refl)

pub tagged_ordered : (shard : ℕ) (rows : List Row) → All (λ (row : Row). row.lower ≤ row.upper) rows → AreOrdered (map (in_shard shard) rows)
tagged_ordered shard rows each = All-map (λ (row : CatalogRow). row.lower ≤ row.upper) (in_shard shard) rows each

pub merged_before : (shards : List Shown) → AreBefore (length shards) (merged shards)
merged_before shards =
    all_from (λ (row : CatalogRow). row.shard < length shards) 0 [] shards (All-nil (λ (row : CatalogRow). row.shard < length shards))
    (λ i low. All-map (λ (row : CatalogRow). row.shard < length shards) (in_shard (0 + i)) (shown_at shards i).rows (λ k d inside. omega (arith, low)))

pub merged_ordered : (shards : List Shown) → All HasOrdered shards → AreOrdered (merged shards)
merged_ordered shards each =
    all_from (λ (row : CatalogRow). row.lower ≤ row.upper) 0 [] shards (All-nil (λ (row : CatalogRow). row.lower ≤ row.upper))
    (λ i low. tagged_ordered (0 + i) (shown_at shards i).rows (each i _ low))

-- what is kept with one shard more
pub shard_more : (r : ℕ) (shown : List Shown) (one : Shown) (fall fall' : Bool) (kept next : List CatalogRow) → All HasOrdered shown → HasOrdered one
    → IsKeptIf r fall kept (merged shown)
    → (fall ≡ true → IsKeptIf r fall' next (merge kept (map (in_shard (length shown)) one.rows))) → (fall ≡ false → fall' ≡ false)
    → IsKeptIf r fall' next (merged (shown ++ one ∷ []))
shard_more r shown one fall fall' kept next each ordered so_far taken left =
    let own : List CatalogRow = map (in_shard (length shown)) one.rows in
    let same : merge (merged shown) own ≡ merged (shown ++ one ∷ []) =
    let at : length shown ≡ 0 + length shown = omega arith in
    ap (λ (n : ℕ). merge (merged shown) (map (in_shard n) one.rows)) at ∙ sym (merged_more 0 [] shown one) in
    subst (IsKeptIf r fall' next) same (elim (cases_Bool fall) [
      | inl is ↦ subst (λ (l : List CatalogRow). IsKeptIf r fall' next (merge l own)) (so_far.rows is) (taken is)
      | inr not ↦
          let none : fall' ≡ false = left not in
          record {
            falls = (
              λ true'. absurd (cc),
              λ falling.
                  let before : fall ≡ true = so_far.falls.1 (no_rows r (length shown) (merged shown) own (merged_before shown) (merged_ordered shown each)
                  (tagged_own (length shown) one.rows) (tagged_ordered (length shown) one.rows ordered) falling) in
                  absurd (cc),
            );
            rows = λ true'. absurd (cc);
          }
    ])

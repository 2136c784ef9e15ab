-- A merge, row by row of the later shard.
use Rattle.std.proofs.Common.{◌≡◌, ◌⊎◌, ◌<◌, ◌≤◌, ◌+◌, ◌++◌, ◌∙◌, ℕ, zero, suc, Bool, true, false, cond, List, [], ◌∷◌, length, refl, sym, ap, subst, inl, inr, arith}
use Rattle.std.specs.List.{All, count_by}
use Rattle.std.proofs.lemmas.Bool.{cases_Bool}
use Rattle.std.proofs.lemmas.List.Elements.{All-cons, All-head, All-tail}
use Rattle.std.proofs.lemmas.List.Sums.{sum_by-cons}
use Rattle.ats_catalog_check.specs.declared.row.CatalogRow.{CatalogRow}
use Rattle.ats_catalog_check.specs.Merge.{precedes, merge_before, merge, row_at}
use Rattle.ats_catalog_check.specs.Inner.Places.{put_in}

-- ---- one step

pub step_later : (row : CatalogRow) (follow : List CatalogRow → List CatalogRow) (x : CatalogRow) (later : List CatalogRow) → precedes x row ≡ true
    → merge_before row follow (x ∷ later) ≡ x ∷ merge_before row follow later
step_later row follow x later is = ap (λ (b : Bool). cond b (x ∷ merge_before row follow later) (row ∷ follow (x ∷ later))) is

pub step_first : (row : CatalogRow) (follow : List CatalogRow → List CatalogRow) (x : CatalogRow) (later : List CatalogRow) → precedes x row ≡ false
    → merge_before row follow (x ∷ later) ≡ row ∷ follow (x ∷ later)
step_first row follow x later not = ap (λ (b : Bool). cond b (x ∷ merge_before row follow later) (row ∷ follow (x ∷ later))) not

pub merge_none : (rows : List CatalogRow) → merge rows [] ≡ rows
merge_none [] = refl
merge_none (row ∷ rows) = ap (λ (l : List CatalogRow). row ∷ l) (merge_none rows)

-- ---- what holds of all rows

module _ (P : CatalogRow → Type 0) where
  all_before : (row : CatalogRow) (follow : List CatalogRow → List CatalogRow) → P row → ((later : List CatalogRow) → All P later → All P (follow later))
      → (later : List CatalogRow) → All P later → All P (merge_before row follow later)
  all_before row follow here next [] each = All-cons P row (follow []) here (next [] each)
  all_before row follow here next (x ∷ later) each = elim (cases_Bool (precedes x row)) [
    | inl is ↦ subst (All P) (sym (step_later row follow x later is))
        (All-cons P x (merge_before row follow later) (All-head P x later each) (all_before row follow here next later (All-tail P x later each)))
    | inr not ↦ subst (All P) (sym (step_first row follow x later not)) (All-cons P row (follow (x ∷ later)) here (next (x ∷ later) each))
  ]

  pub all_merged : (rows later : List CatalogRow) → All P rows → All P later → All P (merge rows later)
  all_merged [] later each also = also
  all_merged (row ∷ rows) later each also =
      all_before row (merge rows) (All-head P row rows each) (λ l all. all_merged rows l (All-tail P row rows each) all) later also

-- ---- how often something is among the rows

module _ (p : CatalogRow → Bool) where
  abbrev one : CatalogRow → ℕ
  one row = cond (p row) 1 0

  pub count_cons : (row : CatalogRow) (rows : List CatalogRow) → count_by p (row ∷ rows) ≡ one row + count_by p rows
  count_cons row rows = sum_by-cons one row rows

  count_before : (row : CatalogRow) (rows : List CatalogRow) → ((later : List CatalogRow) → count_by p (merge rows later) ≡ count_by p rows + count_by p later)
      → (later : List CatalogRow) → count_by p (merge_before row (merge rows) later) ≡ one row + count_by p rows + count_by p later
  count_before row rows next [] = omega (arith, count_cons row (merge rows []), next [])
  count_before row rows next (x ∷ later) = elim (cases_Bool (precedes x row)) [
    | inl is ↦ omega (
      arith,
      ap (count_by p) (step_later row (merge rows) x later is),
      count_cons x (merge_before row (merge rows) later),
      count_before row rows next later,
      count_cons x later,
    )
    | inr not ↦ omega (
      arith,
      ap (count_by p) (step_first row (merge rows) x later not),
      count_cons row (merge rows (x ∷ later)),
      next (x ∷ later),
    )
  ]

  pub count_merged : (rows later : List CatalogRow) → count_by p (merge rows later) ≡ count_by p rows + count_by p later
  count_merged [] later = omega arith
  count_merged (row ∷ rows) later = omega (arith, count_before row rows (count_merged rows) later, count_cons row rows)

-- ---- one row more of the later shard

-- a merge with a row more is the one without, and the row at a place after which there are only rows of lesser shards
pub record IsPut (row : CatalogRow) (Own Lesser : CatalogRow → Type 0) (rows more : List CatalogRow) (place : ℕ) : Type 0 where
  pub inside : place ≤ length rows
  pub put : more ≡ put_in row rows place
  pub lesser : (k : ℕ) → place ≤ k → k < length rows → Lesser (row_at rows k)
  pub next : place < length rows → precedes row (row_at rows place) ≡ true
  pub last : (k : ℕ) → place ≡ k + 1 → Own (row_at rows k) ⊎ (precedes row (row_at rows k) ≡ false)

-- so for some place, which is not the first, if there are rows of the later shard
pub record HasPlace (row : CatalogRow) (Own Lesser : CatalogRow → Type 0) (rows more : List CatalogRow) (own : ℕ) : Type 0 where
  pub place : ℕ
  pub is : IsPut row Own Lesser rows more place
  pub some : 0 < own → 0 < place

module _ (row : CatalogRow) (Own Lesser : CatalogRow → Type 0) where
  lesser_on : (x : CatalogRow) (rows : List CatalogRow) (place : ℕ) → ((k : ℕ) → place ≤ k → k < length rows → Lesser (row_at rows k))
      → (k : ℕ) → suc place ≤ k → k < length (x ∷ rows) → Lesser (row_at (x ∷ rows) k)
  lesser_on x rows place each zero past low = absurd (omega (arith, past))
  lesser_on x rows place each (suc k) past low = each k (omega (arith, past)) (omega (arith, low))

  last_on : (x : CatalogRow) (rows : List CatalogRow) (place : ℕ) → (place ≡ 0 → Own x ⊎ (precedes row x ≡ false))
      → ((k : ℕ) → place ≡ k + 1 → Own (row_at rows k) ⊎ (precedes row (row_at rows k) ≡ false))
      → (k : ℕ) → suc place ≡ k + 1 → Own (row_at (x ∷ rows) k) ⊎ (precedes row (row_at (x ∷ rows) k) ≡ false)
  last_on x rows place here each zero is = here (omega (arith, is))
  last_on x rows place here each (suc k) is = each k (omega (arith, is))

  further : (x : CatalogRow) (rows more : List CatalogRow) (own own' : ℕ) (found : HasPlace row Own Lesser rows more own)
      → (found.place ≡ 0 → Own x ⊎ (precedes row x ≡ false)) → HasPlace row Own Lesser (x ∷ rows) (x ∷ more) own'
  further x rows more own own' found here = record {
    place = suc found.place;
    is = record {
      inside = omega (arith, found.is.inside);
      put = ap (λ (l : List CatalogRow). x ∷ l) found.is.put;
      lesser = lesser_on x rows found.place found.is.lesser;
      next = λ low. found.is.next (omega (arith, low));
      last = last_on x rows found.place here found.is.last;
    };
    some = λ _. omega arith;
  }

  same_put : (rows more rows' more' : List CatalogRow) (own : ℕ) → rows' ≡ rows → more' ≡ more → HasPlace row Own Lesser rows more own
      → HasPlace row Own Lesser rows' more' own
  same_put rows more rows' more' own one two found =
      subst (λ (l : List CatalogRow). HasPlace row Own Lesser l more' own) (sym one)
      (subst (λ (l : List CatalogRow). HasPlace row Own Lesser rows l own) (sym two) found)

  at_end : (later : List CatalogRow) → All Own later → HasPlace row Own Lesser later (later ++ row ∷ []) (length later)
  at_end [] each = record {
    place = 0;
    is = record {
      inside = omega arith;
      put = refl;
      lesser = λ k past low. absurd (omega (arith, low));
      next = λ low. absurd (omega (arith, low));
      last = λ k is. absurd (omega (arith, is));
    };
    some = λ some. absurd (omega (arith, some));
  }
  at_end (x ∷ later) each =
      further x later (later ++ row ∷ []) (length later) (length (x ∷ later)) (at_end later (All-tail Own x later each)) (λ _. inl (All-head Own x later each))

  first_place : (x : CatalogRow) (rows : List CatalogRow) → All Lesser (x ∷ rows) → precedes row x ≡ true → HasPlace row Own Lesser (x ∷ rows) (row ∷ x ∷ rows) 0
  first_place x rows each is = record {
    place = 0;
    is = record {
      inside = omega arith;
      put = refl;
      lesser = λ k past low. each k _ low;
      next = λ low. is;
      last = λ k is. absurd (omega (arith, is));
    };
    some = λ some. absurd (omega (arith, some));
  }

  place_before : (x : CatalogRow) (rows : List CatalogRow) → All Lesser (x ∷ rows)
      → ((later : List CatalogRow) → All Own later → HasPlace row Own Lesser (merge rows later) (merge rows (later ++ row ∷ [])) (length later))
      → (later : List CatalogRow) → All Own later
      → HasPlace row Own Lesser (merge (x ∷ rows) later) (merge (x ∷ rows) (later ++ row ∷ [])) (length later)
  place_before x rows each next [] own = elim (cases_Bool (precedes row x)) [
    | inl is ↦ same_put (x ∷ rows) (row ∷ x ∷ rows) _ _ 0 (merge_none (x ∷ rows))
        (step_later x (merge rows) row [] is ∙ ap (λ (l : List CatalogRow). row ∷ l) (merge_none (x ∷ rows)))
        (first_place x rows each is)
    | inr not ↦ same_put (x ∷ merge rows []) (x ∷ merge rows (row ∷ [])) _ _ 0 refl (step_first x (merge rows) row [] not)
        (further x (merge rows []) (merge rows (row ∷ [])) 0 0 (next [] own) (λ _. inr not))
  ]
  place_before x rows each next (y ∷ later) own = elim (cases_Bool (precedes y x)) [
    | inl is ↦ same_put (y ∷ merge (x ∷ rows) later) (y ∷ merge (x ∷ rows) (later ++ row ∷ [])) _ _ (length (y ∷ later))
        (step_later x (merge rows) y later is) (step_later x (merge rows) y (later ++ row ∷ []) is)
        (further y (merge (x ∷ rows) later) (merge (x ∷ rows) (later ++ row ∷ [])) (length later) (length (y ∷ later))
        (place_before x rows each next later (All-tail Own y later own)) (λ _. inl (All-head Own y later own)))
    | inr not ↦
        let found = next (y ∷ later) own in
        same_put (x ∷ merge rows (y ∷ later)) (x ∷ merge rows (y ∷ later ++ row ∷ [])) _ _ (length (y ∷ later))
        (step_first x (merge rows) y later not) (step_first x (merge rows) y (later ++ row ∷ []) not)
        (further x (merge rows (y ∷ later)) (merge rows (y ∷ later ++ row ∷ [])) (length (y ∷ later)) (length (y ∷ later)) found
        (λ none. absurd (omega (arith, none, found.some (omega arith)))))
  ]

  pub merged_place : (rows : List CatalogRow) → All Lesser rows → (later : List CatalogRow) → All Own later
      → HasPlace row Own Lesser (merge rows later) (merge rows (later ++ row ∷ [])) (length later)
  merged_place [] each later own = at_end later own
  merged_place (x ∷ rows) each later own = place_before x rows each (λ l all. merged_place rows (All-tail Lesser x rows each) l all) later own

-- Rows that all shards show within their spans are settled.
use Rattle.std.proofs.Common.{◌≡◌, ◌⊎◌, ◌<◌, ◌≤◌, ◌+◌, ◌-◌, ℕ, zero, suc, true, false, cond, nat_eq, List, [], ◌∷◌, length, map, get_or, refl, sym, ap, ◌∙◌, subst, inl, inr, arith}
use Rattle.std.specs.List.{All, sum_by, range_with_len}
use Rattle.std.proofs.lemmas.Bool.{cases_order}
use Rattle.std.proofs.lemmas.Bool.Decides.{nat_tests}
use Rattle.std.proofs.lemmas.List.{length-map, get_or-map}
use Rattle.std.proofs.lemmas.List.Elements.{All-nil, All-cons, All-map, All-weaker}
use Rattle.std.proofs.lemmas.List.Sums.{sum_by-cons}
use Rattle.ats_bound.proofs.Public.{counted_places, times_other, times_same}
use Rattle.ats_bound.specs.declared.span.Span.{Span}
use Rattle.ats_bound.specs.Floors.{span_at}
use Rattle.ats_impact.specs.Rank.{times}
use Rattle.ats_impact.specs.declared.rank.Row.{Row}
use Rattle.ats_catalog_check.specs.Merge.{Shown, shown_at, in_shard, merge, merged, merged_from, last_of, floor, greatest_rest, IsSettled}
use Rattle.ats_catalog_check.specs.declared.row.CatalogRow.{CatalogRow}
use Rattle.ats_catalog_check.proofs.Public.{all_merged}
use Rattle.ats_catalog_honest.specs.Shares.{AreEdges, AreShared, IsRowIn, Shares, ShowsWithin, floors_of, rows_from, span_of}
use Rattle.ats_catalog_honest.proofs.Falls.{IsUnder, AreApart, Fall, fall_next, fall_pairs, merge_falls, merge_length}

-- ---- the rows of one shard

rows_yes : (shard j owner : ℕ) (more : List ℕ) → owner ≡ shard → rows_from shard j (owner ∷ more) ≡ j ∷ rows_from shard (j + 1) more
rows_yes shard j owner more is =
    let yes : nat_eq owner shard ≡ true = grind (arith, nat_tests) in
    ap (λ b. cond b (j ∷ rows_from shard (j + 1) more) (rows_from shard (j + 1) more)) yes

rows_no : (shard j owner : ℕ) (more : List ℕ) → ((owner < shard) ⊎ (shard < owner)) → rows_from shard j (owner ∷ more) ≡ rows_from shard (j + 1) more
rows_no shard j owner more other =
    let no : nat_eq owner shard ≡ false = grind (arith, nat_tests) in
    ap (λ b. cond b (j ∷ rows_from shard (j + 1) more) (rows_from shard (j + 1) more)) no

-- a row of these owners, counted from j, that is the shard's
pub record IsPlace (shard j : ℕ) (owners : List ℕ) (p : ℕ) : Type 0 where
  pub low : j ≤ p
  pub high : p < j + length owners
  pub owner : get_or owners (p - j) 0 ≡ shard

shifted : (shard j owner : ℕ) (more : List ℕ) (p : ℕ) → IsPlace shard (j + 1) more p → IsPlace shard j (owner ∷ more) p
shifted shard j owner more p is =
    let step : suc (p - (j + 1)) ≡ p - j = omega (arith, is.low) in
    record {
      low = omega (arith, is.low);
      high = omega (arith, is.high);
      owner = subst (λ (n : ℕ). get_or (owner ∷ more) n 0 ≡ shard) step is.owner;
    }

pub places : (shard j : ℕ) (owners : List ℕ) → All (IsPlace shard j owners) (rows_from shard j owners)
places shard j [] = All-nil (IsPlace shard j [])
places shard j (owner ∷ more) =
    let Is : ℕ → Type 0 = IsPlace shard j (owner ∷ more) in
    let later : All Is (rows_from shard (j + 1) more) =
    All-weaker (IsPlace shard (j + 1) more) Is (shifted shard j owner more) (rows_from shard (j + 1) more) (places shard (j + 1) more) in
    elim (cases_order owner shard) [
      | inl is ↦
          let none : 0 ≡ j - j = omega arith in
          let here : Is j = record {
            low = omega arith;
            high = omega arith;
            owner = subst (λ (n : ℕ). get_or (owner ∷ more) n 0 ≡ shard) none is;
          } in
          subst (All Is) (sym (rows_yes shard j owner more is)) (All-cons Is j (rows_from shard (j + 1) more) here later)
      | inr other ↦ subst (All Is) (sym (rows_no shard j owner more other)) later
    ]

abbrev Rises : List ℕ → Type 0
Rises ps = (i k : ℕ) → i < k → k < length ps → get_or ps i 0 < get_or ps k 0

rises_cons : (j : ℕ) (ps : List ℕ) → ((i : ℕ) → i < length ps → j < get_or ps i 0) → Rises ps → Rises (j ∷ ps)
rises_cons j ps above rises zero zero less inside = absurd (omega (arith, less))
rises_cons j ps above rises zero (suc k) less inside = above k (omega (arith, inside))
rises_cons j ps above rises (suc i) zero less inside = absurd (omega (arith, less))
rises_cons j ps above rises (suc i) (suc k) less inside = rises i k (omega (arith, less)) (omega (arith, inside))

rises : (shard j : ℕ) (owners : List ℕ) → Rises (rows_from shard j owners)
rises shard j [] = λ i k less inside. absurd (omega (arith, inside))
rises shard j (owner ∷ more) = elim (cases_order owner shard) [
  | inl is ↦ subst Rises (sym (rows_yes shard j owner more is)) (rises_cons j (rows_from shard (j + 1) more)
      (λ i inside. omega (arith, (places shard (j + 1) more i 0 inside).low)) (rises shard (j + 1) more))
  | inr other ↦ subst Rises (sym (rows_no shard j owner more other)) (rises shard (j + 1) more)
]

counted : (shard j : ℕ) (owners : List ℕ) → length (rows_from shard j owners) ≡ times shard owners
counted shard j [] = refl
counted shard j (owner ∷ more) = elim (cases_order owner shard) [
  | inl is ↦ omega (arith, ap (λ (ps : List ℕ). length ps) (rows_yes shard j owner more is), times_same shard owner more is, counted shard (j + 1) more)
  | inr other ↦ omega (arith, ap (λ (ps : List ℕ). length ps) (rows_no shard j owner more other), times_other shard owner more other, counted shard (j + 1) more)
]

-- ---- the rows of all shards

module _ (shares : Shares) (edges_fall : AreEdges shares) where
  abbrev owners : List ℕ
  owners = shares.owners

  -- a row within the span of one place, whose owner is so
  record HasPlace (Is : ℕ → Type 0) (row : CatalogRow) : Type 0 where
    place : ℕ
    inside : place < length owners
    owner : Is (get_or owners place 0)
    proper : row.lower ≤ row.upper
    least : shares.edges (place + 1) ≤ row.lower
    most : row.upper ≤ shares.edges place

  -- rows of two places
  under : (Is Also : ℕ → Type 0) (a b : CatalogRow) (x : HasPlace Is a) (y : HasPlace Also b) → x.place < y.place → IsUnder a b
  under Is Also a b x y less = omega (arith, x.least, y.most, edges_fall (x.place + 1) y.place (omega arith) (omega (arith, less)) (omega (arith, y.inside)))

  abbrev Own : ℕ → CatalogRow → Type 0
  Own shard = HasPlace (λ o. o ≡ shard)

  abbrev Before : ℕ → CatalogRow → Type 0
  Before shard = HasPlace (λ o. o < shard)

  apart : (shard : ℕ) (a b : CatalogRow) → Before shard a → Own shard b → AreApart a b
  apart shard a b x y = elim (cases_order x.place y.place) [
    | inl same ↦ absurd (omega (arith, x.owner, y.owner, ap (λ p. get_or owners p 0) same))
    | inr (inl less) ↦ inl (under (λ o. o < shard) (λ o. o ≡ shard) a b x y less)
    | inr (inr more) ↦ inr (under (λ o. o ≡ shard) (λ o. o < shard) b a y x more)
  ]

  own_before : (shard : ℕ) (row : CatalogRow) → Own shard row → Before (shard + 1) row
  own_before shard row x = record { place = x.place; inside = x.inside; owner = omega (arith, x.owner); proper = x.proper; least = x.least; most = x.most }

  before_next : (shard : ℕ) (row : CatalogRow) → Before shard row → Before (shard + 1) row
  before_next shard row x = record { place = x.place; inside = x.inside; owner = omega (arith, x.owner); proper = x.proper; least = x.least; most = x.most }

  -- one shard
  module _ (shard : ℕ) (one : Shown) (shows : ShowsWithin (floors_of shares shard) one) where
    abbrev own : List ℕ
    own = rows_from shard 0 owners

    size : length one.rows ≡ length own
    size = shows.many ∙ length-map own (span_of shares.edges)

    abbrev here : List CatalogRow
    here = map (in_shard shard) one.rows

    none : Row
    none = record { doc = 0; lower = 0; upper = 0 }

    at_place : (k : ℕ) (d : Row) → k < length one.rows → Own shard (in_shard shard (get_or one.rows k d))
    at_place k d low =
        let p : ℕ = get_or own k 0 in
        let there : IsPlace shard 0 owners p = places shard 0 owners k 0 (omega (arith, low, size)) in
        let is : IsRowIn (span_at (floors_of shares shard).spans k) (get_or one.rows k d) = shows.rows k d low in
        let span : span_at (floors_of shares shard).spans k ≡ span_of shares.edges p =
        get_or-map (span_of shares.edges) own k 0 (record { lower = 0; upper = 0 }) (omega (arith, low, size)) in
        let within : IsRowIn (span_of shares.edges p) (get_or one.rows k d) = subst (λ (s : Span). IsRowIn s (get_or one.rows k d)) span is in
        let same : p - 0 ≡ p = omega arith in
        record {
          place = p;
          inside = omega (arith, there.high);
          owner = subst (λ (n : ℕ). get_or owners n 0 ≡ shard) same there.owner;
          proper = within.proper;
          least = within.least;
          most = within.most;
        }

    own_places : All (Own shard) here
    own_places = All-map (Own shard) (in_shard shard) one.rows at_place

    own_fall : Fall here
    unfolding at_place
    own_fall = fall_pairs here (λ i j d less inside.
        let low : j < length one.rows = omega (arith, inside, length-map one.rows (in_shard shard)) in
        let left : get_or here i d ≡ in_shard shard (get_or one.rows i none) = get_or-map (in_shard shard) one.rows i none d (omega (arith, low, less)) in
        let right : get_or here j d ≡ in_shard shard (get_or one.rows j none) = get_or-map (in_shard shard) one.rows j none d low in
        let rise : get_or own i 0 < get_or own j 0 = rises shard 0 owners i j less (omega (arith, low, size)) in
        rw (left, right) (under (λ o. o ≡ shard) (λ o. o ≡ shard) _ _ (at_place i none (omega (arith, low, less))) (at_place j none low) rise))

  abbrev ShowWithin : ℕ → List Shown → Type 0
  ShowWithin first shards = (i : ℕ) → i < length shards → ShowsWithin (floors_of shares (first + i)) (shown_at shards i)

  head_shows : (first : ℕ) (one : Shown) (more : List Shown) → ShowWithin first (one ∷ more) → ShowsWithin (floors_of shares first) one
  head_shows first one more each =
      let here : first + 0 ≡ first = omega arith in
      subst (λ (n : ℕ). ShowsWithin (floors_of shares n) one) here (each 0 (omega arith))

  tail_shows : (first : ℕ) (one : Shown) (more : List Shown) → ShowWithin first (one ∷ more) → ShowWithin (first + 1) more
  tail_shows first one more each i low =
      let next : first + suc i ≡ (first + 1) + i = omega arith in
      subst (λ (n : ℕ). ShowsWithin (floors_of shares n) (shown_at more i)) next (each (suc i) (omega (arith, low)))

  -- the rows of the shards before this one, merged
  record AreMerged (shard : ℕ) (rows : List CatalogRow) : Type 0 where
    places : All (Before shard) rows
    fall : Fall rows

  all_fall : (first : ℕ) (rows : List CatalogRow) (shards : List Shown) → ShowWithin first shards → AreMerged first rows
      → AreMerged (first + length shards) (merged_from first rows shards)
  all_fall first rows [] each so_far =
      let same : first ≡ first + 0 = omega arith in
      subst (λ (n : ℕ). AreMerged n rows) same so_far
  all_fall first rows (one ∷ more) each so_far =
      let shows = head_shows first one more each in
      let own = own_places first one shows in
      let next : (first + 1) + length more ≡ first + suc (length more) = omega arith in
      subst (λ (n : ℕ). AreMerged n (merged_from first rows (one ∷ more))) next
      (all_fall (first + 1) (merge rows (map (in_shard first) one.rows)) more (tail_shows first one more each) (record {
        places = all_merged (Before (first + 1)) rows (map (in_shard first) one.rows)
            (All-weaker (Before first) (Before (first + 1)) (before_next first) rows so_far.places)
            (All-weaker (Own first) (Before (first + 1)) (own_before first) (map (in_shard first) one.rows) own);
        fall = merge_falls (Before first) (Own first) (λ row x. x.proper) (λ row x. x.proper) (apart first) rows (map (in_shard first) one.rows)
            so_far.places own so_far.fall (own_fall first one shows);
      }))

  all_counted : (first : ℕ) (rows : List CatalogRow) (shards : List Shown) → ShowWithin first shards
      → length (merged_from first rows shards) ≡ length rows + sum_by (λ i. times i owners) (range_with_len first (length shards))
  all_counted first rows [] each = omega arith
  all_counted first rows (one ∷ more) each =
      let own : List CatalogRow = map (in_shard first) one.rows in
      omega (
        arith,
        all_counted (first + 1) (merge rows own) more (tail_shows first one more each),
        merge_length rows own,
        length-map one.rows (in_shard first),
        size first one (head_shows first one more each),
        counted first 0 owners,
        sum_by-cons (λ i. times i owners) first (range_with_len (first + 1) (length more)),
      )

  rests : (first : ℕ) (shards : List Shown) → ShowWithin first shards → greatest_rest shards ≤ shares.edges (length owners)
  rests first [] each = omega arith
  rests first (one ∷ more) each = omega (arith, (head_shows first one more each).rest, rests (first + 1) more (tail_shows first one more each))

module _ (shares : Shares) (r : ℕ) (shards : List Shown) (shared : AreShared shares r shards) where
  abbrev rows : List CatalogRow
  rows = merged shards

  each : ShowWithin shares shared.edges 0 shards
  each i low =
      let is : i ≡ 0 + i = omega arith in
      subst (λ (n : ℕ). ShowsWithin (floors_of shares n) (shown_at shards i)) is (shared.each i low)

  all : AreMerged shares shared.edges (0 + length shards) rows
  all = all_fall shares shared.edges 0 [] shards each (record { places = All-nil (Before shares shared.edges 0); fall = tt })

  total : length rows ≡ length shares.owners
  total = omega (arith, all_counted shares shared.edges 0 [] shards each, counted_places (length shards) shares.owners shared.owned)

  floor_is : (1 ≤ r) × (length shares.owners ≡ r) → shares.edges (length shares.owners) ≤ floor r rows
  floor_is full =
      let test : nat_eq (length rows) r ≡ true = grind (arith, nat_tests, total, full.1) in
      let place = all.places (length rows - 1) (record { shard = 0; doc = 0; lower = 0; upper = 0 }) (omega (arith, total, full.0, full.1)) in
      let least : shares.edges (length shares.owners) ≤ (last_of rows).lower =
      omega (arith, place.least, shared.edges (place.place + 1) (length shares.owners) (omega arith) (omega (arith, place.inside)) (omega arith)) in
      rw test least

  within : greatest_rest shards ≤ floor r rows
  within =
      let rest = rests shares shared.edges 0 shards each in
      elim shared.whole [
        | inl full ↦ omega (arith, rest, floor_is full)
        | inr nothing ↦ omega (arith, rest, nothing)
      ]

  pub shared_are_settled : IsSettled r shards
  shared_are_settled = record {
    falling = record { most = omega (arith, total, shared.most); fall = fall_next rows all.fall };
    rests = within;
  }

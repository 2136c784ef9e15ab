-- Rows that fall, with and without one of them.
use Rattle.std.proofs.Common.{◌≡◌, ◌≢◌, ◌<◌, ◌≤◌, ◌+◌, ◌∙◌, ℕ, zero, suc, true, false, List, [], ◌∷◌, length, refl, sym, ap, subst, inl, inr, arith}
use Rattle.std.proofs.lemmas.Bool.{cases_lt, cases_order}
use Rattle.std.proofs.lemmas.Bool.Decides.{nat_tests}
use Rattle.ats_catalog_check.specs.declared.row.CatalogRow.{CatalogRow}
use Rattle.ats_catalog_check.specs.Merge.{precedes, row_at, AreFalling}
use Rattle.ats_catalog_check.specs.Inner.Places.{IsPlace, IsBetween, AreOrdered, put_in}
use Rattle.ats_catalog_check.proofs.Merges.{IsPut}

-- ---- rows with one more

put_before : (row : CatalogRow) (rows : List CatalogRow) (place k : ℕ) → k < place → place ≤ length rows → row_at (put_in row rows place) k ≡ row_at rows k
put_before row rows zero k low inside = absurd (omega (arith, low))
put_before row [] (suc place) k low inside = absurd (omega (arith, inside))
put_before row (x ∷ rows) (suc place) zero low inside = refl
put_before row (x ∷ rows) (suc place) (suc k) low inside = put_before row rows place k (omega (arith, low)) (omega (arith, inside))

put_here : (row : CatalogRow) (rows : List CatalogRow) (place : ℕ) → place ≤ length rows → row_at (put_in row rows place) place ≡ row
put_here row rows zero inside = refl
put_here row [] (suc place) inside = absurd (omega (arith, inside))
put_here row (x ∷ rows) (suc place) inside = put_here row rows place (omega (arith, inside))

put_after : (row : CatalogRow) (rows : List CatalogRow) (place k : ℕ) → place ≤ k → place ≤ length rows → row_at (put_in row rows place) (suc k) ≡ row_at rows k
put_after row rows zero k past inside = refl
put_after row [] (suc place) k past inside = absurd (omega (arith, inside))
put_after row (x ∷ rows) (suc place) zero past inside = absurd (omega (arith, past))
put_after row (x ∷ rows) (suc place) (suc k) past inside = put_after row rows place k (omega (arith, past)) (omega (arith, inside))

pub length_put : (row : CatalogRow) (rows : List CatalogRow) (place : ℕ) → place ≤ length rows → length (put_in row rows place) ≡ length rows + 1
length_put row rows zero inside = omega arith
length_put row [] (suc place) inside = absurd (omega (arith, inside))
length_put row (x ∷ rows) (suc place) inside = omega (arith, length_put row rows place (omega (arith, inside)))

-- rows that fall do so without any of them
pub falling_without : (r : ℕ) (row : CatalogRow) (rows : List CatalogRow) (place : ℕ) → place ≤ length rows → row.lower ≤ row.upper
    → AreFalling r (put_in row rows place) → AreFalling r rows
falling_without r row rows place inside ordered falling = record {
  most = omega (arith, falling.most, length_put row rows place inside);
  fall = λ k low.
      let size = length_put row rows place inside in
      elim (cases_order (k + 1) place) [
        | inl here ↦
            let above = falling.fall k (omega (arith, low, size)) in
            let below = falling.fall (k + 1) (omega (arith, low, size)) in
            let a : row_at (put_in row rows place) k ≡ row_at rows k = put_before row rows place k (omega (arith, here)) inside in
            let x : row_at (put_in row rows place) (k + 1) ≡ row = ap (row_at (put_in row rows place)) here ∙ put_here row rows place inside in
            let b : row_at (put_in row rows place) (k + 1 + 1) ≡ row_at rows (k + 1) =
            ap (row_at (put_in row rows place)) (omega arith) ∙ put_after row rows place (k + 1) (omega (arith, here)) inside in
            omega (arith, ordered, rw (x, a) at above, rw (b, x) at below)
        | inr (inl less) ↦
            let fall = falling.fall k (omega (arith, low, size)) in
            rw (put_before row rows place (k + 1) less inside, put_before row rows place k (omega (arith, less)) inside) at fall
        | inr (inr more) ↦
            let fall = falling.fall (k + 1) (omega (arith, low, size)) in
            let a : row_at (put_in row rows place) (k + 1) ≡ row_at rows k =
            ap (row_at (put_in row rows place)) (omega arith) ∙ put_after row rows place k (omega (arith, more)) inside in
            let b : row_at (put_in row rows place) (k + 1 + 1) ≡ row_at rows (k + 1) =
            ap (row_at (put_in row rows place)) (omega arith) ∙ put_after row rows place (k + 1) (omega (arith, more)) inside in
            rw (b, a) at fall
      ];
}

-- the row is between its neighbors
pub falling_between : (r : ℕ) (row : CatalogRow) (rows : List CatalogRow) (place : ℕ) → place ≤ length rows
    → AreFalling r (put_in row rows place) → IsBetween row rows place
falling_between r row rows place inside falling = record {
  above = λ k is.
      let size = length_put row rows place inside in
      let fall = falling.fall k (omega (arith, is, size, inside)) in
      let x : row_at (put_in row rows place) (k + 1) ≡ row = ap (row_at (put_in row rows place)) (sym is) ∙ put_here row rows place inside in
      rw (x, put_before row rows place k (omega (arith, is)) inside) at fall;
  below = λ low.
      let size = length_put row rows place inside in
      let fall = falling.fall place (omega (arith, low, size)) in
      let b : row_at (put_in row rows place) (place + 1) ≡ row_at rows place =
      ap (row_at (put_in row rows place)) (omega arith) ∙ put_after row rows place place (omega arith) inside in
      rw (b, put_here row rows place inside) at fall;
}

-- past the place rows fall as they did
falling_past : (r : ℕ) (row : CatalogRow) (rows : List CatalogRow) (place : ℕ) → place ≤ length rows → AreFalling r rows → (k : ℕ) → place < k → k < length rows
    → (row_at (put_in row rows place) (k + 1)).upper ≤ (row_at (put_in row rows place) k).lower
falling_past r row rows place inside falling zero past low = absurd (omega (arith, past))
falling_past r row rows place inside falling (suc k) past low =
    let a : row_at (put_in row rows place) (suc k) ≡ row_at rows k = put_after row rows place k (omega (arith, past)) inside in
    let b : row_at (put_in row rows place) (suc k + 1) ≡ row_at rows (k + 1) =
    ap (row_at (put_in row rows place)) (omega arith) ∙ put_after row rows place (k + 1) (omega (arith, past)) inside in
    rw (b, a) (falling.fall k (omega (arith, low)))

-- and rows that fall do so with one between its neighbors
pub falling_with : (r : ℕ) (row : CatalogRow) (rows : List CatalogRow) (place : ℕ) → place ≤ length rows → length rows < r
    → AreFalling r rows → IsBetween row rows place → AreFalling r (put_in row rows place)
falling_with r row rows place inside few falling between =
    let size = length_put row rows place inside in
    record {
      most = omega (arith, size, few);
      fall = λ k low. elim (cases_order (k + 1) place) [
        | inl here ↦
            let a : row_at (put_in row rows place) k ≡ row_at rows k = put_before row rows place k (omega (arith, here)) inside in
            let x : row_at (put_in row rows place) (k + 1) ≡ row = ap (row_at (put_in row rows place)) here ∙ put_here row rows place inside in
            rw (x, a) (between.above k (sym here))
        | inr (inl less) ↦
            rw (put_before row rows place (k + 1) less inside, put_before row rows place k (omega (arith, less)) inside)
            (falling.fall k (omega (arith, less, inside)))
        | inr (inr more) ↦ elim (cases_order k place) [
          | inl at ↦
              let x : row_at (put_in row rows place) k ≡ row = ap (row_at (put_in row rows place)) at ∙ put_here row rows place inside in
              let b : row_at (put_in row rows place) (k + 1) ≡ row_at rows place =
              ap (row_at (put_in row rows place)) (omega (arith, at)) ∙ put_after row rows place place (omega arith) inside in
              rw (b, x) (between.below (omega (arith, at, low, size)))
          | inr (inl under) ↦ absurd (omega (arith, under, more))
          | inr (inr over) ↦ falling_past r row rows place inside falling k over (omega (arith, low, size))
        ]
      ];
    }

-- ---- the place

-- the row past the last one
abbrev pub nothing : CatalogRow
nothing = record { shard = 0; doc = 0; lower = 0; upper = 0 }

-- no row that rows fall before scores more than that one at most
falling_pair : (r : ℕ) (rows : List CatalogRow) → AreFalling r rows → AreOrdered rows → (j k : ℕ) → j < k → k < length rows
    → (row_at rows k).upper ≤ (row_at rows j).lower
falling_pair r rows falling ordered j zero less low = absurd (omega (arith, less))
falling_pair r rows falling ordered j (suc k) less low =
    let fall : (row_at rows (suc k)).upper ≤ (row_at rows k).lower =
    subst (λ (n : ℕ). (row_at rows n).upper ≤ (row_at rows k).lower) (omega arith) (falling.fall k (omega (arith, low))) in
    elim (cases_lt j k) [
      | inl before ↦
          let pair = falling_pair r rows falling ordered j k before (omega (arith, low)) in
          let own : (row_at rows k).lower ≤ (row_at rows k).upper = ordered k nothing (omega (arith, low)) in
          omega (arith, fall, own, pair)
      | inr past ↦
          let same : k ≡ j = omega (arith, past, less) in
          subst (λ (n : ℕ). (row_at rows (suc k)).upper ≤ (row_at rows n).lower) same fall
    ]

precedes_on : (row a b : CatalogRow) → precedes row a ≡ true → a.lower ≤ a.upper → b.lower ≤ b.upper → b.upper ≤ a.lower → precedes row b ≡ true
precedes_on row a b is ordered also fall = grind (arith, nat_tests)

-- the place of a merged row, in rows that fall, is one before which no row is preceded
pub merged_is_place : (r : ℕ) (row : CatalogRow) (rows more : List CatalogRow) (place : ℕ) → AreFalling r rows → AreOrdered rows
    → IsPut row (λ x. x.shard ≡ row.shard) (λ x. x.shard ≢ row.shard) rows more place → IsPlace row rows place
merged_is_place r row rows more place falling ordered is = record {
  inside = is.inside;
  later = λ k past low. (
    elim (cases_lt place k) [
      | inl after ↦ precedes_on row (row_at rows place) (row_at rows k) (is.next (omega (arith, after, low)))
          (ordered place nothing (omega (arith, after, low))) (ordered k nothing low) (falling_pair r rows falling ordered place k after low)
      | inr before ↦
          let same : place ≡ k = omega (arith, past, before) in
          subst (λ (n : ℕ). precedes row (row_at rows n) ≡ true) same (is.next (omega (arith, same, low)))
    ],
    is.lesser k past low,
  );
  earlier = is.last;
}

-- there is one such place
before_place : (row : CatalogRow) (rows : List CatalogRow) (a b : ℕ) → IsPlace row rows a → IsPlace row rows b → a < b → ⊥
before_place row rows a zero is also less = absurd (omega (arith, less))
before_place row rows a (suc k) is also less =
    let here = is.later k (omega (arith, less)) (omega (arith, also.inside)) in
    elim (also.earlier k (omega arith)) [
      | inl own ↦ here.1 own
      | inr not ↦ let clash : true ≡ false = sym here.0 ∙ not in cc
    ]

pub one_place : (row : CatalogRow) (rows : List CatalogRow) (a b : ℕ) → IsPlace row rows a → IsPlace row rows b → a ≡ b
one_place row rows a b is also = elim (cases_order a b) [
  | inl same ↦ same
  | inr (inl less) ↦ absurd (before_place row rows a b is also less)
  | inr (inr more) ↦ absurd (before_place row rows b a also is more)
]

-- there is no room for more than r rows
pub none_more : (r : ℕ) (row : CatalogRow) (rows : List CatalogRow) (place : ℕ) → place ≤ length rows → r ≤ length rows → AreFalling r (put_in row rows place) → ⊥
none_more r row rows place inside full falling = omega (arith, length_put row rows place inside, full, falling.most)

-- a row is refused where it is not between its neighbors
pub not_between : (r : ℕ) (row : CatalogRow) (rows : List CatalogRow) (place at : ℕ) → IsPlace row rows place → IsPlace row rows at → (IsBetween row rows at → ⊥)
    → AreFalling r (put_in row rows place) → ⊥
not_between r row rows place at is found not falling =
    not (subst (IsBetween row rows) (one_place row rows place at is found) (falling_between r row rows place is.inside falling))

-- a row is taken where it is between its neighbors
pub falling_at : (r : ℕ) (row : CatalogRow) (rows : List CatalogRow) (at place : ℕ) → at ≡ place → place ≤ length rows → length rows < r
    → AreFalling r rows → IsBetween row rows at → AreFalling r (put_in row rows place)
falling_at r row rows at place same inside few falling between = falling_with r row rows place inside few falling (subst (IsBetween row rows) same between)

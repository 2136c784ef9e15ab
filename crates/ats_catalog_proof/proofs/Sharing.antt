-- The rows that a shard is asked for.
use Rattle.std.proofs.Common.{◌≡◌, ◌∙◌, ◌+◌, ◌<◌, ◌≤◌, ◌++◌, ℕ, Bool, true, false, cond, min, nat_eq, List, [], ◌∷◌, length, map, take, get_or, refl, sym, ap, inl, inr, arith, append-nil, length-take}
use Rattle.std.specs.List.{count_by}
use Rattle.std.proofs.lemmas.Bool.{cases_Bool, cases_lt}
use Rattle.std.proofs.lemmas.Bool.Decides.{nat_tests}
use Rattle.std.proofs.lemmas.List.{length-map, map-append, take_all, take_more}
use Rattle.std.proofs.lemmas.List.Sums.{count_by-le-length, sum_by-cons}
use Rattle.ats_bound.specs.declared.span.Span.{Span}
use Rattle.ats_catalog_honest.specs.Ranking.{Ranked}
use Rattle.ats_catalog_honest.specs.Shares.{rows_from, span_of}

abbrev pub owners_of : List Ranked → List ℕ
owners_of rows = map (λ (one : Ranked). one.shard) rows

counted_step : (b : Bool) (j : ℕ) (more : List ℕ) → length (cond b (j ∷ more) more) ≡ cond b 1 0 + length more
counted_step true j more = omega arith
counted_step false j more = omega arith

-- as many as there are rows of the shard
pub rows_counted : (shard j : ℕ) (rows : List Ranked)
    → length (rows_from shard j (owners_of rows)) ≡ count_by (λ (one : Ranked). nat_eq one.shard shard) rows
rows_counted shard j [] = refl
rows_counted shard j (one ∷ rows) =
    let later = rows_counted shard (j + 1) rows in
    let step = counted_step (nat_eq one.shard shard) j (rows_from shard (j + 1) (owners_of rows)) in
    let sum = sum_by-cons (λ (other : Ranked). cond (nat_eq other.shard shard) 1 0) one rows in
    omega (arith, later, step, sum)

-- ---- the spans of these rows

owner_more : (shard j : ℕ) (owners : List ℕ) (owner : ℕ)
    → rows_from shard j (owners ++ owner ∷ []) ≡ rows_from shard j owners ++ rows_from shard (j + length owners) (owner ∷ [])
owner_more shard j [] owner = ap (λ (n : ℕ). rows_from shard n (owner ∷ [])) (omega arith)
owner_more shard j (first ∷ owners) owner =
    let place : (j + 1) + length owners ≡ j + length (first ∷ owners) = omega arith in
    let later : rows_from shard (j + 1) (owners ++ owner ∷ []) ≡ rows_from shard (j + 1) owners ++ rows_from shard (j + length (first ∷ owners)) (owner ∷ []) =
    owner_more shard (j + 1) owners owner ∙ ap (λ (n : ℕ). rows_from shard (j + 1) owners ++ rows_from shard n (owner ∷ [])) place in
    elim (cases_Bool (nat_eq first shard)) [
      | inl is ↦ rw is (ap (λ (rows : List ℕ). j ∷ rows) later)
      | inr not ↦ rw not later
    ]

abbrev pub spans_from : (ℕ → ℕ) → ℕ → List Ranked → List Span
spans_from edges shard rows = map (span_of edges) (rows_from shard 0 (owners_of rows))

pub spans_few : (edges : ℕ → ℕ) (shard : ℕ) (rows : List Ranked) → length (spans_from edges shard rows) ≤ length rows
spans_few edges shard rows =
    omega (arith, length-map (rows_from shard 0 (owners_of rows)) (span_of edges), rows_counted shard 0 rows, count_by-le-length (λ (one : Ranked). nat_eq one.shard shard) rows)

-- one row more, which has a span if it is of the shard
row_more : (edges : ℕ → ℕ) (shard : ℕ) (rows : List Ranked) (place : ℕ) (d : Ranked) → place < length rows
    → spans_from edges shard (take (place + 1) rows)
    ≡ spans_from edges shard (take place rows) ++ map (span_of edges) (rows_from shard place ((get_or rows place d).shard ∷ []))
row_more edges shard rows place d low =
    let before : List Ranked = take place rows in
    let one : Ranked = get_or rows place d in
    let many : 0 + length (owners_of before) ≡ place = omega (arith, length-map before (λ (x : Ranked). x.shard), length-take place rows, low) in
    let owners : owners_of (take (place + 1) rows) ≡ owners_of before ++ one.shard ∷ [] =
    ap owners_of (take_more rows place d low) ∙ map-append (λ (x : Ranked). x.shard) before (one ∷ []) in
    ap (λ (xs : List ℕ). map (span_of edges) (rows_from shard 0 xs)) owners
    ∙ ap (map (span_of edges)) (owner_more shard 0 (owners_of before) one.shard)
    ∙ map-append (span_of edges) (rows_from shard 0 (owners_of before)) (rows_from shard (0 + length (owners_of before)) (one.shard ∷ []))
    ∙ ap (λ (n : ℕ). spans_from edges shard before ++ map (span_of edges) (rows_from shard n (one.shard ∷ []))) many

module _ (edges : ℕ → ℕ) (shard : ℕ) (rows : List Ranked) (place : ℕ) (row : Ranked) (low : place < length rows) (is_row : row ≡ get_or rows place row) where
  with_span : (spans : List Span) → map (span_of edges) (rows_from shard place (row.shard ∷ [])) ≡ spans
      → spans_from edges shard (take place rows) ++ spans ≡ spans_from edges shard (take (place + 1) rows)
  with_span spans is =
      sym (row_more edges shard rows place row low
      ∙ ap (λ (one : Ranked). spans_from edges shard (take place rows) ++ map (span_of edges) (rows_from shard place (one.shard ∷ []))) (sym is_row)
      ∙ ap (λ (more : List Span). spans_from edges shard (take place rows) ++ more) is)

  pub own_more : row.shard ≡ shard → spans_from edges shard (take place rows) ++ span_of edges place ∷ [] ≡ spans_from edges shard (take (place + 1) rows)
  own_more own =
      let is : nat_eq row.shard shard ≡ true = grind (arith, nat_tests) in
      with_span (span_of edges place ∷ []) (rw is refl)

  pub other_more : (row.shard ≡ shard → ⊥) → spans_from edges shard (take place rows) ≡ spans_from edges shard (take (place + 1) rows)
  other_more other =
      let not : nat_eq row.shard shard ≡ false = grind (arith, nat_tests) in
      sym (append-nil (spans_from edges shard (take place rows))) ∙ with_span [] (rw not refl)

-- ---- the rows of the answer

-- there are r of them, or all
pub take_shown : {X : Type 0} (r n : ℕ) (rows : List X) → n ≡ min (length rows) r → take n rows ≡ take r rows
take_shown r n rows is = elim (cases_lt (length rows) r) [
  | inl few ↦ take_all n rows (omega (arith, is, few)) ∙ sym (take_all r rows (omega (arith, few)))
  | inr full ↦ ap (λ (k : ℕ). take k rows) (let same : n ≡ r = omega (arith, is, full) in same)
]

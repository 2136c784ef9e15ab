-- The rest of a proof: what it bounds, and when it settles the rows.
use Rattle.std.proofs.Common.{◌≡◌, ◌⊎◌, ◌<◌, ◌≤◌, ◌+◌, ◌-◌, ◌∙◌, ℕ, zero, suc, false, nat_eq, nat_lt, Bool, if◌then◌else◌, inl, inr, List, [], ◌∷◌, length, get_or, map, max, sym, ap, ap₂, arith}
use Rattle.std.specs.List.{All, fold, list_any, range_with_len}
use Rattle.std.proofs.lemmas.Bool.{cases_Bool, cases_lt}
use Rattle.std.proofs.lemmas.List.{length-map, get_or-map, get_or_default}
use Rattle.std.proofs.lemmas.List.Elements.{All-head, All-tail}
use Rattle.std.proofs.lemmas.List.Folds.{fold-map}
use Rattle.std.proofs.lemmas.List.FromFn.{length-map-range_with_len, get_or-map-range_with_len, fill_by_all}
use Rattle.ats_impact.specs.Rank.{times}
use Rattle.ats_impact.specs.declared.rank.Row.{Row}
use Rattle.ats_bound.specs.declared.bracket.Bracket.{Bracket}
use Rattle.ats_bound.specs.declared.work.Mark.{Mark}
use Rattle.ats_bound.specs.Work.{zero_mark}
use Rattle.ats_bound.specs.Cut.{threshold}
use Rattle.ats_bound.specs.Settled.{IsOutside, bracket_at, row, last_row}
use Rattle.ats_proof.specs.Value.{Proof}
use Rattle.ats_client.specs.Bracketing.{bounds_of}
use Rattle.ats_client.specs.Bounded.{upper_outside, rest_of, row_at, AreSettledRows}
use Rattle.ats_client.specs.Groups.{brackets_of, met_at, AreRowsRight, IsAnswerSettled}
use Rattle.ats_client.specs.Inner.Bounds.{outside, most_outside}
use Rattle.ats_client.specs.Marked.{AreNoted}
use Rattle.ats_client.specs.Presented.{lanes_of}
use Rattle.ats_client.specs.Rows.{IsLeftByCheck, row_of, rows_of}
use Rattle.ats_client.proofs.Bounding.{upper_is, all_fill, fill_all}
use Rattle.ats_client.proofs.Named.{any_is_times, any_none}

-- ---- the greatest of some numbers

pub first_below : (a : ℕ) (xs : List ℕ) → a ≤ fold max a xs
first_below a [] = omega arith
first_below a (x ∷ xs) = omega (arith, first_below (max a x) xs)

pub each_below : (a : ℕ) (xs : List ℕ) (i : ℕ) → i < length xs → get_or xs i 0 ≤ fold max a xs
each_below a [] i inside = absurd (omega (arith, inside))
each_below a (x ∷ xs) zero inside = omega (arith, first_below (max a x) xs)
each_below a (x ∷ xs) (suc i) inside = each_below (max a x) xs i (omega (arith, inside))

pub all_within : (a most : ℕ) (xs : List ℕ) → a ≤ most → All (λ x. x ≤ most) xs → fold max a xs ≤ most
all_within a most [] first each = first
all_within a most (x ∷ xs) first each =
    all_within (max a x) most xs (omega (arith, first, All-head (λ x. x ≤ most) x xs each)) (All-tail (λ x. x ≤ most) x xs each)

-- ---- the rest

module _ (query : List (List ℕ × ℕ)) (proof : Proof) where
  abbrev brackets : List Bracket
  brackets = brackets_of (bounds_of proof) (lanes_of query proof) proof.met

  abbrev uppers : List ℕ
  uppers = map (upper_outside query proof) (range_with_len 0 (length proof.met))

  upper_at : (i : ℕ) → i < length proof.met → get_or uppers i 0 ≡ upper_outside query proof i
  upper_at i inside = get_or-map-range_with_len (upper_outside query proof) 0 (length proof.met) i i 0 inside (omega arith)

  bracket_is : (i : ℕ) → i < length proof.met → bracket_at brackets i ≡ bounds_of proof (lanes_of query proof) (met_at proof.met i)
  bracket_is i inside = get_or-map (bounds_of proof (lanes_of query proof)) proof.met i 0 (record { doc = 0; lo = 0; hi = 0 }) inside

  count : length brackets ≡ length proof.met
  count = length-map proof.met (bounds_of proof (lanes_of query proof))

  outside_is : (i : ℕ) → IsOutside brackets proof.answer i → upper_outside query proof i ≡ (bracket_at brackets i).hi
  outside_is i outside =
      let none : list_any (λ index. nat_eq index i) proof.answer ≡ false = any_is_times i proof.answer ∙ ap (λ x. nat_lt 0 x) outside.1 in
      rw none (ap (λ (b : Bracket). b.hi) (sym (bracket_is i (omega (arith, outside.0, count)))))

  upper_within : (most : ℕ) → ((i : ℕ) → IsOutside brackets proof.answer i → (bracket_at brackets i).hi ≤ most) → (i : ℕ) → i < length proof.met → upper_outside query proof i ≤ most
  upper_within most above i inside = elim (cases_Bool (list_any (λ index. nat_eq index i) proof.answer)) [
    | inl named ↦ rw named (omega arith)
    | inr free ↦
        let outside : IsOutside brackets proof.answer i = (omega (arith, inside, count), any_none i proof.answer free) in
        omega (arith, outside_is i outside, above i outside)
  ]

  pub threshold_within : threshold (lanes_of query proof) ≤ rest_of query proof
  threshold_within = first_below (threshold (lanes_of query proof)) uppers

  pub outside_within : (i : ℕ) → IsOutside brackets proof.answer i → (bracket_at brackets i).hi ≤ rest_of query proof
  outside_within i outside =
      let inside : i < length proof.met = omega (arith, outside.0, count) in
      omega (
        arith,
        each_below (threshold (lanes_of query proof)) uppers i (omega (arith, inside, length-map-range_with_len (upper_outside query proof) 0 (length proof.met))),
        upper_at i inside,
        outside_is i outside,
      )

  -- a number that neither the threshold nor a bracket outside the answer exceeds is not less than the rest
  pub rest_within : (most : ℕ) → threshold (lanes_of query proof) ≤ most → ((i : ℕ) → IsOutside brackets proof.answer i → (bracket_at brackets i).hi ≤ most) → rest_of query proof ≤ most
  rest_within most unmet above = all_within (threshold (lanes_of query proof)) most uppers unmet (λ i d low.
      let inside : i < length proof.met = omega (arith, low, length-map-range_with_len (upper_outside query proof) 0 (length proof.met)) in
      omega (arith, get_or_default uppers i d 0 low, upper_at i inside, upper_within most above i inside))

  -- the marks and the threshold of a check give the rest
  pub rest_is : (marks : List Mark) (unmet : ℕ) → IsLeftByCheck query proof marks unmet → AreNoted proof.answer marks → most_outside unmet marks ≡ rest_of query proof
  rest_is marks unmet left noted =
      let each = λ (k : ℕ) (inside : k < length proof.met).
      let low : k < length marks = omega (arith, inside, left.each.size) in
      let upper_is_hi = upper_is (bounds_of proof) (lanes_of query proof) proof.met marks unmet left.each left.rests k inside in
      get_or-map (outside unmet) marks k zero_mark 0 low
      ∙ ap₂ (λ (named : Bool) (most : ℕ). if named then 0 else most) (noted k low) (sym upper_is_hi) in
      sym (fold-map max (outside unmet) unmet marks)
      ∙ ap₂ (λ (a : ℕ) (xs : List ℕ). fold max a xs) left.rests
      (fill_by_all (upper_outside query proof) (map (outside unmet) marks) (length proof.met) 0 (length-map marks (outside unmet) ∙ left.each.size) each)

  -- ---- when the rows and the rest settle the answer

  module _ (right : AreRowsRight proof.met proof.answer) where
    abbrev rows : List Row
    rows = rows_of query proof

    abbrev n : ℕ
    n = length proof.answer

    size : length rows ≡ n
    size = length-map proof.answer (λ index. row_of (bounds_of proof (lanes_of query proof) (met_at proof.met index)))

    row_is : (k : ℕ) → k < n → row_at rows k ≡ row_of (row brackets proof.answer k)
    row_is k inside =
        get_or-map (λ index. row_of (bounds_of proof (lanes_of query proof) (met_at proof.met index))) proof.answer k 0 (record { doc = 0; lower = 0; upper = 0 }) inside
        ∙ ap row_of (sym (bracket_is (get_or proof.answer k 0) (right.inside k 0 inside)))

    upper_is_hi : (k : ℕ) → k < n → (row_at rows k).upper ≡ (row brackets proof.answer k).hi
    upper_is_hi k inside = ap (λ (one : Row). one.upper) (row_is k inside)

    lower_is_lo : (k : ℕ) → k < n → (row_at rows k).lower ≡ (row brackets proof.answer k).lo
    lower_is_lo k inside = ap (λ (one : Row). one.lower) (row_is k inside)

    last_is : 0 < n → (row_at rows (length rows - 1)).lower ≡ (last_row brackets proof.answer).lo
    last_is some = ap (λ (m : ℕ). (row_at rows (m - 1)).lower) size ∙ lower_is_lo (n - 1) (omega (arith, some))

    -- a settled answer's rows and rest settle it, and it has r rows, or one for each met document
    pub rows_settle : (r : ℕ) → 1 ≤ r → IsAnswerSettled (bounds_of proof) (lanes_of query proof) proof.met proof.answer r
        → AreSettledRows r rows (rest_of query proof) × ((n ≡ r) ⊎ (length proof.met ≤ n))
    rows_settle r some settled = (
      record {
        most = omega (arith, size, settled.most);
        falling = λ k inside.
            let next : k + 1 < n = omega (arith, inside, size) in
            omega (arith, settled.falling k next, upper_is_hi (k + 1) next, lower_is_lo k (omega (arith, next)));
        full = λ full.
            let more : 0 < n = omega (arith, some, full, size) in
            let unmet : threshold (lanes_of query proof) ≤ (last_row brackets proof.answer).lo = elim (cases_lt 0 (threshold (lanes_of query proof))) [
              | inl high ↦ settled.unmet more high
              | inr none ↦ omega (arith, none)
            ] in
            omega (arith, rest_within (last_row brackets proof.answer).lo unmet (λ i outside. settled.rest i outside more), last_is more);
        fewer = λ fewer. elim settled.whole [
          | inl full ↦ absurd (omega (arith, full, fewer, size))
          | inr every ↦
              let none : rest_of query proof ≤ 0 = rest_within 0 (omega (arith, every.1)) (λ i outside. absurd (omega (arith, every.0 i outside.0, outside.1))) in
              omega (arith, none)
        ];
      },
      elim settled.whole [
        | inl full ↦ inl full
        | inr every ↦ inr (all_fill (length proof.met) proof.answer right.inside (λ i inside. every.0 i (omega (arith, inside, count))))
      ],
    )

    -- and that is enough
    module _ (r : ℕ) (settle : AreSettledRows r rows (rest_of query proof)) (whole : (n ≡ r) ⊎ (length proof.met ≤ n)) where
      rest_low : 0 < n → rest_of query proof ≤ (last_row brackets proof.answer).lo
      rest_low some = elim (cases_lt n r) [
        | inl fewer ↦ omega (arith, settle.fewer (omega (arith, fewer, size)))
        | inr full ↦ omega (arith, settle.full (omega (arith, full, settle.most, size)), last_is some)
      ]

      whole_is : (n ≡ r) ⊎ (((i : ℕ) → i < length brackets → 1 ≤ times i proof.answer) × (threshold (lanes_of query proof) ≡ 0))
      whole_is = elim (cases_lt n r) [
        | inl fewer ↦ elim whole [
          | inl full ↦ inl full
          | inr all ↦ inr (
            (λ i inside. fill_all (length proof.met) proof.answer right.inside right.once all i (omega (arith, inside, count))),
            omega (arith, settle.fewer (omega (arith, fewer, size)), threshold_within),
          )
        ]
        | inr full ↦ inl (omega (arith, full, settle.most, size))
      ]

      pub settled_by_rows : IsAnswerSettled (bounds_of proof) (lanes_of query proof) proof.met proof.answer r
      settled_by_rows = record {
        once = right.once;
        most = omega (arith, size, settle.most);
        whole = whole_is;
        falling = λ k inside.
            omega (arith, settle.falling k (omega (arith, inside, size)), upper_is_hi (k + 1) inside, lower_is_lo k (omega (arith, inside)));
        rest = λ i outside some. omega (arith, outside_within i outside, rest_low some);
        unmet = λ some _. omega (arith, threshold_within, rest_low some);
      }

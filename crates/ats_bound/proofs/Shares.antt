-- When the chosen answer of a walk with known scores is all that is asked of a shard.
use Rattle.std.proofs.Common.{◌≡◌, ◌<◌, ◌≤◌, ◌↔◌, ◌+◌, ◌^◌, ℕ, leb, List, length, take, drop, get_or, replicate, sym, ap, subst, ◌∙◌, inl, inr, arith, length-take, length-drop}
use Rattle.std.specs.List.{All, range_with_len}
use Rattle.std.specs.List.Sorted.{IsPermutation, IsSorted}
use Rattle.std.specs.Map.{values_of}
use Rattle.std.proofs.lemmas.Bool.{cases_lt}
use Rattle.std.proofs.lemmas.List.{get_or-drop, get_or-replicate, get_or-take, length-map, length-replicate}
use Rattle.std.proofs.lemmas.List.Elements.{All-map}
use Rattle.std.proofs.lemmas.Map.Entries.{length-values_of}
use Rattle.std.proofs.lemmas.List.Sums.{count_by-le-length, sum_by-take-drop}
use Rattle.ats_bound.specs.declared.bracket.Bracket.{Bracket}
use Rattle.ats_bound.specs.declared.share.Share.{Share}
use Rattle.ats_bound.specs.Chosen.{IsChosen, place_cmp}
use Rattle.ats_bound.specs.Cursors.{Stage, shown_on}
use Rattle.ats_bound.specs.Cut.{threshold}
use Rattle.ats_bound.specs.declared.span.Span.{Span}
use Rattle.ats_bound.specs.Floors.{AreWithin, IsInSpan, IsWithinBy, floors_of_share, span_at}
use Rattle.ats_bound.specs.Inner.Best.{AreBest, count_at_least}
use Rattle.ats_bound.specs.Inner.Scored.{AreScored, exact_brackets}
use Rattle.ats_bound.specs.Schedule.{AreBracketsBy, Bounding}
use Rattle.ats_bound.specs.Scored.{exact}
use Rattle.ats_bound.specs.Settled.{bracket_at, row}
use Rattle.ats_bound.proofs.Chain.{later_is_outside, later_place}
use Rattle.ats_bound.proofs.Exactly.{scored_proper}
use Rattle.ats_bound.proofs.Kept.{count_all, count_none, reached}
use Rattle.ats_bound.proofs.One.{one_bracketing}
use Rattle.ats_bound.proofs.Reach.{count_scores, counted, even_brackets, fall, few_reach, lows, lows_at, lows_size}
use Rattle.ats_bound.proofs.Sorted.{chosen_exists}

-- the most that a score can be
abbrev most : ℕ
most = 0xffff_ffff_ffff_ffff

abbrev span_of : Share → Span
span_of share = record { lower = share.floor; upper = most }

-- as many of these scores as are asked reach the floor, and no more are above it
pub record HaveShare (share : Share) (scores : List ℕ) : Type 0 where
  pub reach : share.rows ≤ count_at_least share.floor scores
  pub above : count_at_least (share.floor + 1) scores ≤ share.rows

-- brackets with known scores, in the order of the chosen answer
module _ (brackets : List Bracket) (all : List ℕ) (same : IsPermutation (range_with_len 0 (length brackets)) all) (ordered : IsSorted (place_cmp brackets) all)
    (even : (i : ℕ) → i < length brackets → (bracket_at brackets i).hi ≤ (bracket_at brackets i).lo)
    (proper : (i : ℕ) → i < length brackets → (bracket_at brackets i).lo ≤ (bracket_at brackets i).hi)
    (few : (i : ℕ) → i < length brackets → (bracket_at brackets i).hi ≤ most) (share : Share) (threshold : ℕ) where
  abbrev picks : List ℕ
  picks = take share.rows all

  abbrev n : ℕ
  n = length brackets

  abbrev scores : List ℕ
  scores = lows brackets all same ordered

  size : length all ≡ n
  size = sym (length-map all (λ i. (bracket_at brackets i).lo)) ∙ lows_size brackets all same ordered

  picked : (k : ℕ) → k < share.rows → k < n → (row brackets picks k).lo ≡ get_or scores k 0
  picked k low inside = ap (λ i. (bracket_at brackets i).lo) (get_or-take share.rows all k 0 low) ∙ sym (lows_at brackets all same ordered k inside)

  span_is : (k : ℕ) → k < share.rows → span_at (replicate share.rows (span_of share)) k ≡ span_of share
  span_is k low = get_or-replicate share.rows k (span_of share) (record { lower = 0; upper = 0 }) low

  place : (k : ℕ) → k < n → get_or all k 0 < n
  place k inside = (later_is_outside brackets all same 0 k (omega arith) (omega (arith, inside, size))).0

  have_share : AreWithin brackets picks threshold (floors_of_share share) → HaveShare share scores
  have_share within =
      let full : length picks ≡ share.rows = within.many ∙ length-replicate share.rows (span_of share) in
      let enough : share.rows ≤ n = omega (arith, full, length-take share.rows all, size) in
      let front : List ℕ = take share.rows scores in
      let front_size : length front ≡ share.rows = omega (arith, length-take share.rows scores, lows_size brackets all same ordered, enough) in
      let high : (k : ℕ) → k < length front → share.floor ≤ get_or front k 0 = λ k low.
      let within_rows : k < share.rows = omega (arith, low, front_size) in
      let span : (span_at (replicate share.rows (span_of share)) k).lower ≡ share.floor = ap (λ (s : Span). s.lower) (span_is k within_rows) in
      omega (arith, get_or-take share.rows scores k 0 within_rows, picked k within_rows (omega (arith, within_rows, enough)), span, (within.rows k (omega (arith, within_rows, full))).least) in
      let low_rest : (k : ℕ) → k < length (drop share.rows scores) → get_or (drop share.rows scores) k 0 < share.floor + 1 = λ k low.
      let p : ℕ = share.rows + k in
      let inside : p < n = omega (arith, low, length-drop share.rows scores, lows_size brackets all same ordered) in
      let out = within.others (get_or all p 0) (later_is_outside brackets all same share.rows p (omega arith) (omega (arith, inside, size))) in
      omega (arith, get_or-drop share.rows scores k 0, lows_at brackets all same ordered p inside, proper (get_or all p 0) (place p inside), out) in
      record {
        reach = omega (arith, count_all share.floor front high, front_size, sum_by-take-drop (reached share.floor) scores share.rows);
        above =
            omega (
              arith,
              count_none (share.floor + 1) (drop share.rows scores) low_rest,
              sum_by-take-drop (reached (share.floor + 1)) scores share.rows,
              count_by-le-length (λ x. leb (share.floor + 1) x) front,
              front_size,
            );
      }

  are_within : HaveShare share scores → threshold ≤ share.floor → AreWithin brackets picks threshold (floors_of_share share)
  are_within have unmet =
      let enough : share.rows ≤ n = omega (arith, have.reach, count_by-le-length (λ x. leb share.floor x) scores, lows_size brackets all same ordered) in
      let full : length picks ≡ share.rows = omega (arith, length-take share.rows all, size, enough) in
      let falls : (i j : ℕ) → i < j → j < length scores → get_or scores j 0 ≤ get_or scores i 0 = fall brackets all same ordered in
      let high : (k : ℕ) → k < share.rows → share.floor ≤ get_or scores k 0 = λ k low. elim (cases_lt (get_or scores k 0) share.floor) [
        | inr le ↦ le
        | inl less ↦ absurd (omega (arith, have.reach, low, few_reach share.floor scores k falls (omega (arith, low, enough, lows_size brackets all same ordered)) less))
      ] in
      let low_rest : (p : ℕ) → share.rows ≤ p → p < n → get_or scores p 0 ≤ share.floor = λ p after inside. elim (cases_lt share.floor (get_or scores p 0)) [
        | inr le ↦ le
        | inl more ↦
            let front : List ℕ = take (p + 1) scores in
            let front_size : length front ≡ p + 1 = omega (arith, length-take (p + 1) scores, lows_size brackets all same ordered, inside) in
            let above : (k : ℕ) → k < length front → share.floor + 1 ≤ get_or front k 0 = λ k low.
            let here : get_or front k 0 ≡ get_or scores k 0 = get_or-take (p + 1) scores k 0 (omega (arith, low, front_size)) in
            elim (cases_lt k p) [
              | inl before ↦ omega (arith, here, falls k p before (omega (arith, inside, lows_size brackets all same ordered)), more)
              | inr last ↦
                  let is : k ≡ p = omega (arith, last, low, front_size) in
                  omega (arith, here, ap (λ m. get_or scores m 0) is, more)
            ] in
            absurd (omega (arith, have.above, after, count_all (share.floor + 1) front above, front_size, sum_by-take-drop (reached (share.floor + 1)) scores (p + 1)))
      ] in
      record {
        many = full ∙ sym (length-replicate share.rows (span_of share));
        rows = λ k low.
            let inside : k < share.rows = omega (arith, low, full) in
            let at : k < n = omega (arith, inside, enough) in
            let index : get_or picks k 0 ≡ get_or all k 0 = get_or-take share.rows all k 0 inside in
            let there : (row brackets picks k).hi ≤ most = rw index (few (get_or all k 0) (place k at)) in
            subst (λ (span : Span). IsInSpan span (row brackets picks k)) (sym (span_is k inside)) (record {
              least = omega (arith, picked k inside at, high k inside);
              most = there;
            });
        others = λ i out.
            let found = later_place brackets all same share.rows i out in
            let inside : found.0 < n = omega (arith, found.2, size) in
            let score : get_or scores found.0 0 ≡ (bracket_at brackets i).lo = lows_at brackets all same ordered found.0 inside ∙ ap (λ m. (bracket_at brackets m).lo) found.3 in
            omega (arith, even i out.0, score, low_rest found.0 found.1 inside);
        unmet = unmet;
      }

-- ---- what a walk with known scores reports

-- the tests of a walk: of the largest scores that it keeps, one more than rows, `least` is the smallest, and `next` is the
-- one after it
pub record AreTested (share : Share) (threshold least next many : ℕ) : Type 0 where
  pub unmet : threshold ≤ share.floor
  pub others : least ≤ share.floor
  pub rows : share.floor ≤ next
  pub full : share.rows ≤ many

module _ (stage : Stage) (scores : List (ℕ × ℕ)) (kept : List ℕ) (share : Share) (are : AreScored stage share.rows scores kept) where
  abbrev values : List ℕ
  values = values_of scores

  abbrev here : ℕ
  here = threshold (shown_on stage)

  every : count_at_least 0 values ≡ length scores
  every = count_all 0 values (λ i inside. omega arith) ∙ length-values_of scores

  most_values : (least : ℕ) → count_at_least least values ≤ length scores
  most_values least = omega (arith, count_by-le-length (λ x. leb least x) values, length-values_of scores)

  module _ (least next : ℕ) (low : share.floor < 2 ^ 64)
      (tells_least : (all : List ℕ) (t : ℕ) → AreBest kept all → 1 ≤ t → (t ≤ least) ↔ (length kept ≤ count_at_least t all))
      (tells_next : (all : List ℕ) (t : ℕ) → AreBest kept all → 1 ≤ t → t < 2 ^ 64 → (t ≤ next) ↔ (length kept ≤ count_at_least t all + 1)) where
    tested_have : AreTested share here least next (length scores) → HaveShare share values
    tested_have tested = record {
      reach = elim (cases_lt 0 share.floor) [
        | inl some ↦ omega (arith, (tells_next values share.floor are.best some low).0 tested.rows, are.size)
        | inr none ↦
            let is : 0 ≡ share.floor = omega (arith, none) in
            subst (λ (n : ℕ). share.rows ≤ count_at_least n values) is (omega (arith, every, tested.full))
      ];
      above = elim (cases_lt share.rows (count_at_least (share.floor + 1) values)) [
        | inr le ↦ le
        | inl more ↦ absurd (omega (arith, (tells_least values (share.floor + 1) are.best (omega arith)).1 (omega (arith, more, are.size)), tested.others))
      ];
    }

    have_tested : HaveShare share values → here ≤ share.floor → AreTested share here least next (length scores)
    have_tested have unmet = record {
      unmet = unmet;
      others = elim (cases_lt share.floor least) [
        | inr le ↦ le
        | inl more ↦ absurd (omega (arith, (tells_least values (share.floor + 1) are.best (omega arith)).0 (omega (arith, more)), have.above, are.size))
      ];
      rows = elim (cases_lt 0 share.floor) [
        | inr none ↦ omega (arith, none)
        | inl some ↦ (tells_next values share.floor are.best some low).1 (omega (arith, have.reach, are.size))
      ];
      full = omega (arith, have.reach, most_values share.floor);
    }

  module _ (bounds : Bounding) (of : AreBracketsBy bounds (shown_on stage) (exact_brackets scores)) where
    abbrev brackets : List Bracket
    brackets = exact_brackets scores

    proper : (i : ℕ) → i < length brackets → (bracket_at brackets i).lo ≤ (bracket_at brackets i).hi
    proper i inside = scored_proper scores i (record { doc = 0; lo = 0; hi = 0 }) inside

    small : (i : ℕ) → i < length brackets → (bracket_at brackets i).hi ≤ most
    small i inside =
        let below : All (λ (b : Bracket). b.hi < 2 ^ 64) brackets = All-map (λ (b : Bracket). b.hi < 2 ^ 64) (λ (pair : ℕ × ℕ). exact pair.0 pair.1) scores are.small in
        omega (arith, below i (record { doc = 0; lo = 0; hi = 0 }) inside)

    same_count : (answer : List ℕ) (chosen : IsChosen brackets share.rows answer) (least : ℕ)
        → count_at_least least (lows brackets chosen.all chosen.same chosen.ordered) ≡ count_at_least least values
    same_count answer chosen least = counted brackets chosen.all chosen.same chosen.ordered least ∙ count_scores least scores

    have_within : HaveShare share values → here ≤ share.floor → IsWithinBy bounds stage.lanes (floors_of_share share) stage.cut
    have_within have unmet =
        let found = chosen_exists brackets share.rows in
        let chosen : IsChosen brackets share.rows found.0 = found.1 in
        let there : HaveShare share (lows brackets chosen.all chosen.same chosen.ordered) = record {
          reach = omega (arith, have.reach, same_count found.0 chosen share.floor);
          above = omega (arith, have.above, same_count found.0 chosen (share.floor + 1));
        } in
        record {
          brackets = brackets;
          bounded = of;
          answer = found.0;
          chosen = subst (λ (n : ℕ). IsChosen brackets n found.0) (sym (length-replicate share.rows (span_of share))) chosen;
          within = rw chosen.first (are_within brackets chosen.all chosen.same chosen.ordered (even_brackets scores) proper small share here there unmet);
        }

    within_have : IsWithinBy bounds stage.lanes (floors_of_share share) stage.cut → HaveShare share values × (here ≤ share.floor)
    within_have is =
        let same : is.brackets ≡ brackets = one_bracketing bounds (shown_on stage) is.brackets brackets is.bounded of in
        let chosen : IsChosen brackets share.rows is.answer =
        subst (λ (n : ℕ). IsChosen brackets n is.answer) (length-replicate share.rows (span_of share))
        (subst (λ (bs : List Bracket). IsChosen bs (length (replicate share.rows (span_of share))) is.answer) same is.chosen) in
        let within : AreWithin brackets is.answer here (floors_of_share share) = subst (λ (bs : List Bracket). AreWithin bs is.answer here (floors_of_share share)) same is.within in
        let first : AreWithin brackets (take share.rows chosen.all) here (floors_of_share share) = subst (λ (picks : List ℕ). AreWithin brackets picks here (floors_of_share share)) chosen.first within in
        let have : HaveShare share (lows brackets chosen.all chosen.same chosen.ordered) =
        have_share brackets chosen.all chosen.same chosen.ordered (even_brackets scores) proper small share here first in (
          record { reach = omega (arith, have.reach, same_count is.answer chosen share.floor); above = omega (arith, have.above, same_count is.answer chosen (share.floor + 1)) },
          within.unmet,
        )

-- the tests pass exactly if the chosen answer is all that is asked
pub tests_tell_within : (stage : Stage) (scores : List (ℕ × ℕ)) (kept : List ℕ) (share : Share) (least next : ℕ) → AreScored stage share.rows scores kept → share.floor < 2 ^ 64
    → ((all : List ℕ) (t : ℕ) → AreBest kept all → 1 ≤ t → (t ≤ least) ↔ (length kept ≤ count_at_least t all))
    → ((all : List ℕ) (t : ℕ) → AreBest kept all → 1 ≤ t → t < 2 ^ 64 → (t ≤ next) ↔ (length kept ≤ count_at_least t all + 1))
    → (bounds : Bounding) → AreBracketsBy bounds (shown_on stage) (exact_brackets scores)
    → AreTested share (threshold (shown_on stage)) least next (length scores) ↔ IsWithinBy bounds stage.lanes (floors_of_share share) stage.cut
tests_tell_within stage scores kept share least next are low tells_least tells_next bounds of = (
  λ tested. have_within stage scores kept share are bounds of (tested_have stage scores kept share are least next low tells_least tells_next tested) tested.unmet,
  λ within.
      let have = within_have stage scores kept share are bounds of within in
      have_tested stage scores kept share are least next low tells_least tells_next have.0 have.1,
)

-- Why a cut does not show what is asked of a shard: a bracket crosses an edge, more brackets than rows go above one, or
-- fewer reach one.
use Rattle.std.proofs.Common.{◌≡◌, ◌<◌, ◌≤◌, ◌+◌, ◌*◌, ℕ, cond, List, length, length-take, map, take, get_or, sym, ap, subst, ◌∙◌, arith, inl, inr}
use Rattle.std.specs.Prelude.{leb}
use Rattle.std.specs.List.{All, sum_by}
use Rattle.std.proofs.lemmas.Bool.{cases_lt, le-leb}
use Rattle.std.proofs.lemmas.List.{get_or-map, get_or-take, length-map, take-take}
use Rattle.std.proofs.lemmas.List.Elements.{All-take}
use Rattle.std.proofs.lemmas.List.Sums.{sum_by-le, sum_by-take-drop, sum_by-take-le, sum_by_more}
use Rattle.ats_impact.specs.Rank.{times}
use Rattle.ats_bound.specs.declared.bracket.Bracket.{Bracket}
use Rattle.ats_bound.specs.declared.met_documents.Met.{Met}
use Rattle.ats_bound.specs.Cut.{ShownLane, bracket}
use Rattle.ats_bound.specs.Cursors.{Stage, shown_on}
use Rattle.ats_bound.specs.Floors.{Floors, IsInSpan, IsWithinBy, span_at}
use Rattle.ats_bound.specs.Inner.Best.{count_at_least}
use Rattle.ats_bound.specs.Inner.MetDocuments.{AreMetDocuments, lows, met_at}
use Rattle.ats_bound.specs.Inner.Running.{IsCrossing, IsCrossingAt, IsUnshownAt, count_above}
use Rattle.ats_bound.specs.Schedule.{AreBracketsOf}
use Rattle.ats_bound.specs.Settled.{ArePicks, bracket_at}
use Rattle.ats_bound.proofs.Chain.{chosen_are_picks}
use Rattle.ats_bound.proofs.Kept.{count_all, reached, reached_no, reached_yes}
use Rattle.ats_bound.proofs.MetBrackets.{bracket_of_slot, counts_agree, sums_agree}
use Rattle.ats_bound.proofs.Open.{few_above, sum_of_map}
use Rattle.ats_bound.proofs.Places.{position_of, stands}
use Rattle.ats_bound.proofs.Reach.{counted, fall, lows as los, lows_at, lows_size}

abbrev none : Bracket
none = record { doc = 0; lo = 0; hi = 0 }

-- ---- counting in slots that ascend

abbrev is_above : ℕ → List ShownLane → Met → ℕ
is_above score lanes m = cond (leb (score + 1) (bracket lanes m.doc).hi) 1 0

-- one more slot after those that are counted
pub one_above : (score : ℕ) (lanes : List ShownLane) (met : List Met) (count next slot : ℕ) → next ≤ slot → slot < length met
    → score < (bracket lanes (met_at met slot).doc).hi → count ≤ count_above score lanes (take next met)
    → count + 1 ≤ count_above score lanes (take (slot + 1) met)
one_above score lanes met count next slot after inside high counted =
    let f : Met → ℕ = is_above score lanes in
    let d : Met = record { doc = 0; lo = 0; named = 0 } in
    let fewer : sum_by f (take next met) ≤ sum_by f (take slot met) = rw (take-take next slot met after) at (sum_by-take-le f (take slot met) next) in
    let here : f (met_at met slot) ≡ 1 = ap (λ b. cond b 1 0) (le-leb (score + 1) (bracket lanes (met_at met slot).doc).hi (omega (arith, high))) in
    omega (arith, counted, fewer, here, sum_by_more f met slot d inside)

pub all_above : (score : ℕ) (lanes : List ShownLane) (met : List Met) (next : ℕ) → count_above score lanes (take next met) ≤ count_above score lanes met
all_above score lanes met next = sum_by-take-le (is_above score lanes) met next

-- ---- the same count of the brackets of the cut

reached_once : (least x : ℕ) → reached least x ≤ 1
reached_once least x = elim (cases_lt x least) [
  | inl low ↦ omega (arith, reached_no least x low)
  | inr high ↦ omega (arith, reached_yes least x high)
]

above_agree : (score : ℕ) (lanes : List ShownLane) (met : List Met) (brackets : List Bracket) → AreMetDocuments lanes met → AreBracketsOf lanes brackets
    → count_above score lanes met ≡ count_at_least (score + 1) (map (λ (b : Bracket). b.hi) brackets)
above_agree score lanes met brackets known are =
    let f : Bracket → ℕ = λ b. reached (score + 1) b.hi in
    sym (sum_of_map f (λ (m : Met). bracket lanes m.doc) met) ∙ sym (sums_agree f lanes met brackets known are) ∙ sym (sum_of_map (reached (score + 1)) (λ (b : Bracket). b.hi) brackets)

-- ---- what cannot be

module _ (stage : Stage) (met : List Met) (floors : Floors) (known : AreMetDocuments (shown_on stage) met) (is : IsWithinBy bracket stage.lanes floors stage.cut) where
  no_crossing : IsCrossingAt floors.spans floors.floor (shown_on stage) met → ⊥
  no_crossing at =
      let found = bracket_of_slot (shown_on stage) met is.brackets at.0 known is.bounded at.1 in
      let crossing : IsCrossing floors.spans floors.floor (bracket_at is.brackets found.0) = subst (IsCrossing floors.spans floors.floor) (sym found.2) at.2 in
      elim (cases_lt 0 (times found.0 is.answer)) [
        | inr none ↦ omega (arith, is.within.others found.0 (found.1, omega (arith, none)), crossing.above)
        | inl some ↦
            let here = position_of found.0 is.answer some in
            crossing.nowhere here.0 (omega (arith, here.1, is.within.many))
            (subst (λ (i : ℕ). IsInSpan (span_at floors.spans here.0) (bracket_at is.brackets i)) here.2 (is.within.rows here.0 here.1))
      ]

  inside : ArePicks is.brackets is.answer
  inside = chosen_are_picks is.brackets (length floors.spans) is.answer is.chosen

  module _ (row score : ℕ) (low : floors.floor ≤ score) (uppers : (k : ℕ) → row ≤ k → k < length floors.spans → (span_at floors.spans k).upper ≤ score) where
    abbrev his : List ℕ
    his = map (λ (b : Bracket). b.hi) is.brackets

    -- only the rows before this one go above the score
    placed_before : (i : ℕ) → i < length is.brackets → score < (bracket_at is.brackets i).hi → 1 ≤ times i (take row is.answer)
    placed_before i inside high = elim (cases_lt 0 (times i is.answer)) [
      | inr none ↦ absurd (omega (arith, is.within.others i (inside, omega (arith, none)), low, high))
      | inl some ↦
          let here = position_of i is.answer some in
          elim (cases_lt here.0 row) [
            | inl before ↦
                let at : get_or (take row is.answer) here.0 0 ≡ i = get_or-take row is.answer here.0 0 before ∙ here.2 in
                let within : here.0 < length (take row is.answer) = omega (arith, length-take row is.answer, before, here.1) in
                subst (λ (n : ℕ). 1 ≤ times n (take row is.answer)) at (stands (take row is.answer) here.0 within)
            | inr after ↦
                let span : IsInSpan (span_at floors.spans here.0) (bracket_at is.brackets i) =
                subst (λ (n : ℕ). IsInSpan (span_at floors.spans here.0) (bracket_at is.brackets n)) here.2 (is.within.rows here.0 here.1) in
                absurd (omega (arith, span.most, uppers here.0 after (omega (arith, here.1, is.within.many)), high))
          ]
    ]

    pub few_are_above : count_above score (shown_on stage) met ≤ row
    few_are_above =
        let size : length his ≡ length is.brackets = length-map is.brackets (λ (b : Bracket). b.hi) in
        let at : (i : ℕ) → i < length is.brackets → get_or his i 0 ≡ (bracket_at is.brackets i).hi = λ i low. get_or-map (λ (b : Bracket). b.hi) is.brackets i none 0 low in
        let low_places : All (λ (p : ℕ). p < length his) (take row is.answer) =
        All-take (λ (p : ℕ). p < length his) row is.answer (λ i d within. omega (arith, inside i d within, size)) in
        let few = few_above (score + 1) (take row is.answer) his (omega arith)
        (λ i within high. placed_before i (omega (arith, within, size)) (omega (arith, high, at i (omega (arith, within, size))))) low_places in
        let most : sum_by (λ p. reached (score + 1) (get_or his p 0)) (take row is.answer) ≤ length (take row is.answer) * 1 =
        sum_by-le (λ p. reached (score + 1) (get_or his p 0)) 1 (take row is.answer) (λ k d within. reached_once (score + 1) (get_or his (get_or (take row is.answer) k d) 0)) in
        omega (arith, few, most, length-take row is.answer, above_agree score (shown_on stage) met is.brackets known is.bounded)

  -- as many lower bounds as rows reach what the last of these rows must score
  pub enough : (row : ℕ) → row < length floors.spans → row < count_at_least (span_at floors.spans row).lower (lows met)
  enough row low =
      let least : ℕ = (span_at floors.spans row).lower in
      let all : List ℕ = is.chosen.all in
      let scores : List ℕ = los is.brackets all is.chosen.same is.chosen.ordered in
      let size : length scores ≡ length is.brackets = lows_size is.brackets all is.chosen.same is.chosen.ordered in
      let many : length is.answer ≤ length all = omega (arith, ap length is.chosen.first, length-take (length floors.spans) all) in
      let here : row < length is.brackets = omega (arith, low, is.within.many, many, size, length-map all (λ i. (bracket_at is.brackets i).lo)) in
      let at : get_or is.answer row 0 ≡ get_or all row 0 = ap (λ (xs : List ℕ). get_or xs row 0) is.chosen.first ∙ get_or-take (length floors.spans) all row 0 low in
      let score : get_or scores row 0 ≡ (bracket_at is.brackets (get_or is.answer row 0)).lo =
      lows_at is.brackets all is.chosen.same is.chosen.ordered row here ∙ ap (λ i. (bracket_at is.brackets i).lo) (sym at) in
      let high : least ≤ get_or scores row 0 = omega (arith, score, (is.within.rows row (omega (arith, low, is.within.many))).least) in
      let front : List ℕ = take (row + 1) scores in
      let front_size : length front ≡ row + 1 = omega (arith, length-take (row + 1) scores, size, here) in
      let each : (k : ℕ) → k < length front → least ≤ get_or front k 0 = λ k inside.
      let there : get_or front k 0 ≡ get_or scores k 0 = get_or-take (row + 1) scores k 0 (omega (arith, inside, front_size)) in
      elim (cases_lt k row) [
        | inl before ↦ omega (arith, there, fall is.brackets all is.chosen.same is.chosen.ordered k row before (omega (arith, here, size)), high)
        | inr last ↦
            let same : k ≡ row = omega (arith, last, inside, front_size) in
            omega (arith, there, ap (λ m. get_or scores m 0) same, high)
      ] in
      omega (
        arith,
        count_all least front each,
        front_size,
        sum_by-take-drop (reached least) scores (row + 1),
        counted is.brackets all is.chosen.same is.chosen.ordered least,
        counts_agree least (shown_on stage) met is.brackets known is.bounded,
      )

  pub none_where_unshown : IsUnshownAt floors.spans floors.floor (shown_on stage) met → ⊥
  none_where_unshown at = elim at [
    | inl crossing ↦ no_crossing crossing
    | inr other ↦ elim other [
      | inl crowded ↦ omega (arith, crowded.more, few_are_above crowded.row crowded.score crowded.low crowded.uppers)
      | inr sparse ↦ omega (arith, sparse.fewer, enough sparse.row sparse.inside)
    ]
  ]

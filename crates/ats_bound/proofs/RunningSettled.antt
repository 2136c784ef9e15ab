-- What a walk from the shown entries only reports of settled answers.
use Rattle.std.proofs.Common.{◌≡◌, ◌<◌, ◌≤◌, ◌-◌, ◌↔◌, ℕ, Bool, true, false, List, length, length-take, map, get_or, refl, sym, ap, subst, ◌∙◌, arith, inl, inr}
use Rattle.std.specs.Prelude.{leb, count_by}
use Rattle.std.specs.Bool.{IsTrue}
use Rattle.std.specs.List.{All}
use Rattle.std.proofs.lemmas.Bool.{cases_lt}
use Rattle.std.proofs.lemmas.List.{get_or-map, length-map}
use Rattle.ats_impact.specs.Rank.{times}
use Rattle.ats_bound.specs.declared.bracket.Bracket.{Bracket}
use Rattle.ats_bound.specs.declared.met_documents.Met.{Met}
use Rattle.ats_bound.specs.Inner.Best.{AreBest, count_at_least}
use Rattle.ats_bound.specs.Chosen.{AreBrackets, IsChosen}
use Rattle.ats_bound.specs.Cut.{ShownLane, bracket, threshold}
use Rattle.ats_bound.specs.Cursors.{Stage, shown_on}
use Rattle.ats_bound.specs.Floors.{AreWithin, Floors, IsWithinBy}
use Rattle.ats_bound.specs.Inner.MetDocuments.{lows, met_at}
use Rattle.ats_bound.specs.QuickTest.{PassesQuickTest, TellsSettled}
use Rattle.ats_bound.specs.Inner.Running.{DoOverlap, IsAround, IsOpenAt, IsRunning}
use Rattle.ats_bound.specs.Schedule.{AreBracketsOf, CanSettleBy}
use Rattle.ats_bound.specs.Settled.{ArePicks, IsSettled, bracket_at, last_row}
use Rattle.ats_bound.proofs.Chain.{chosen_are_picks, chosen_is_settled, even_settled}
use Rattle.ats_bound.proofs.Kept.{count_short, reached}
use Rattle.ats_bound.proofs.MetBrackets.{bracket_of_slot, counts_agree}
use Rattle.ats_bound.proofs.One.{are_brackets, one_bracketing, risen_are_distinct}
use Rattle.ats_bound.proofs.Once.{chosen_once}
use Rattle.ats_bound.proofs.OneAnswer.{one_chosen}
use Rattle.ats_bound.proofs.Open.{above_least, few_above, full, no_overlap, found, sum_of_map}
use Rattle.ats_bound.proofs.Reach.{count_lows, settled_passes}
use Rattle.ats_bound.proofs.Scores.{missing_within}

abbrev none : Bracket
none = record { doc = 0; lo = 0; hi = 0 }

pub proper_of : (lanes : List ShownLane) (brackets : List Bracket) → AreBracketsOf lanes brackets → AreBrackets brackets
proper_of lanes brackets are = are_brackets bracket lanes brackets (λ doc. omega arith) are

-- ---- what is settled, at the last row

module _ (brackets : List Bracket) (picks : List ℕ) (threshold r : ℕ) (proper : AreBrackets brackets) (inside : ArePicks brackets picks) (is : IsSettled brackets picks threshold r)
    (more : 0 < threshold) (rows : 0 < r) where
  abbrev last : ℕ
  last = (last_row brackets picks).lo

  is_full : length picks ≡ r
  is_full = full brackets picks threshold r proper inside is more rows

  pub last_some : 1 ≤ last
  last_some = omega (arith, is.unmet (omega (arith, is_full, rows)) more, more)

  -- r brackets or more reach its lower bound
  pub many_reach : r ≤ count_by (λ (b : Bracket). leb last b.lo) brackets
  many_reach =
      let at_last : IsSettled brackets picks last r = record { once = is.once; most = is.most; whole = inl is_full; falling = is.falling; rest = is.rest; unmet = λ some positive. omega arith } in
      elim (settled_passes brackets picks last r proper inside at_last) [
        | inl zero ↦ absurd (omega (arith, zero, last_some))
        | inr many ↦ many
      ]

  -- and fewer than r go above it
  pub few_go_above : (score : ℕ) → last < score → count_by (λ (b : Bracket). leb score b.lo) brackets < r
  few_go_above score above =
      let lo : Bracket → ℕ = λ b. b.lo in
      let xs : List ℕ = map lo brackets in
      let size : length xs ≡ length brackets = length-map brackets lo in
      let at : (i : ℕ) → i < length brackets → get_or xs i 0 ≡ (bracket_at brackets i).lo = λ i low. get_or-map lo brackets i none 0 low in
      let low : All (λ (p : ℕ). p < length xs) picks = λ i d within. omega (arith, inside i d within, size) in
      let each : (i : ℕ) → i < length xs → score ≤ get_or xs i 0 → 1 ≤ times i picks = λ i within high.
      let here : i < length brackets = omega (arith, within, size) in
      elim (cases_lt 0 (times i picks)) [
        | inl some ↦ some
        | inr out ↦
            let below : (bracket_at brackets i).hi ≤ last = is.rest i (here, omega (arith, out)) (omega (arith, is_full, rows)) in
            absurd (omega (arith, below, proper i none here, at i here, high, above))
      ] in
      let k : ℕ = length picks - 1 in
      let last_inside : k < length picks = omega (arith, is_full, rows) in
      let values : List ℕ = map (λ p. get_or xs p 0) picks in
      let last_value : get_or values k 0 ≡ last = get_or-map (λ p. get_or xs p 0) picks k 0 0 last_inside ∙ at (get_or picks k 0) (inside k 0 last_inside) in
      let short : count_at_least score values < length values = count_short score values k (omega (arith, last_inside, length-map picks (λ p. get_or xs p 0))) (omega (arith, last_value, above)) in
      omega (
        arith,
        count_lows score brackets,
        few_above score picks xs (omega (arith, above)) each low,
        sum_of_map (reached score) (λ p. get_or xs p 0) picks,
        short,
        length-map picks (λ p. get_or xs p 0),
        is_full,
      )

-- ---- the state of the walk

module _ (stage : Stage) (rows : ℕ) (met : List Met) (best : List ℕ) (run : IsRunning stage rows met best) (some : 1 ≤ rows) (least : ℕ)
    (tells : (all : List ℕ) (t : ℕ) → AreBest best all → 1 ≤ t → (t ≤ least) ↔ (length best ≤ count_at_least t all)) where
  abbrev all : List ShownLane
  all = shown_on stage

  abbrev threshold_here : ℕ
  threshold_here = threshold (shown_on stage)

  -- what is reached by r brackets or more is at most the least of the best
  reach_least : (brackets : List Bracket) (t : ℕ) → AreBracketsOf all brackets → 1 ≤ t → (t ≤ least) ↔ (rows ≤ count_by (λ (b : Bracket). leb t b.lo) brackets)
  reach_least brackets t are more =
      let both = tells (lows met) t run.greatest more in
      let same = counts_agree t all met brackets run.known are in
      (λ le. omega (arith, both.0 le, same, run.size), λ many. both.1 (omega (arith, many, same, run.size)))

  pub passes_where_low : (brackets : List Bracket) → threshold_here ≤ least → (threshold_here ≡ 0 → ⊥) → AreBracketsOf all brackets → PassesQuickTest brackets threshold_here rows
  passes_where_low brackets low more are = inr ((reach_least brackets threshold_here are (omega (arith, more))).0 low)

  pub none_where_high : least < threshold_here → CanSettleBy bracket stage.lanes rows stage.cut → ⊥
  none_where_high high can = elim (settled_passes can.brackets can.answer threshold_here rows (proper_of all can.brackets can.bounded) can.inside can.settled) [
    | inl zero ↦ omega (arith, zero, high)
    | inr many ↦ omega (arith, (reach_least can.brackets threshold_here can.bounded (omega (arith, high))).1 many, high)
  ]

  module _ (more : threshold_here ≡ 0 → ⊥) (can : CanSettleBy bracket stage.lanes rows stage.cut) where
    proper : AreBrackets can.brackets
    proper = proper_of all can.brackets can.bounded

    abbrev low_of_last : ℕ
    low_of_last = (last_row can.brackets can.answer).lo

    last_low : low_of_last ≤ least
    last_low = (reach_least can.brackets low_of_last can.bounded (last_some can.brackets can.answer threshold_here rows proper can.inside can.settled (omega (arith, more)) (omega (arith, some)))).1
        (many_reach can.brackets can.answer threshold_here rows proper can.inside can.settled (omega (arith, more)) (omega (arith, some)))

    last_high : 1 ≤ least → least ≤ low_of_last
    last_high positive = elim (cases_lt low_of_last least) [
      | inr le ↦ le
      | inl less ↦
          let few = few_go_above can.brackets can.answer threshold_here rows proper can.inside can.settled (omega (arith, more)) (omega (arith, some)) least less in
          absurd (omega (arith, few, (reach_least can.brackets least can.bounded positive).0 (omega arith)))
    ]

    no_around : (i : ℕ) → i < length can.brackets → IsAround least (bracket_at can.brackets i) → ⊥
    no_around i inside around =
        let high : least ≤ low_of_last = last_high (omega (arith, around.0)) in
        elim (found can.brackets can.answer threshold_here rows proper can.inside can.settled (omega (arith, more)) (omega (arith, some)) i inside) [
          | inr out ↦ omega (arith, out, last_low, around.1)
          | inl here ↦
              let row_high = above_least can.brackets can.answer threshold_here rows proper can.inside can.settled (omega (arith, more)) (omega (arith, some)) here.0 here.1 in
              omega (arith, rw here.2 at row_high, high, around.0)
        ]

    no_overlapping : (i j : ℕ) → i < length can.brackets → j < length can.brackets → DoOverlap least (bracket_at can.brackets i) (bracket_at can.brackets j) → ⊥
    no_overlapping i j low also over =
        let differ : i ≡ j → ⊥ = λ same. over.0 (ap (λ n. (bracket_at can.brackets n).doc) same) in
        let both = no_overlap can.brackets can.answer threshold_here rows proper can.inside can.settled (omega (arith, more)) (omega (arith, some)) i j low also differ over.1 over.2 in
        elim over.3 [
          | inl first ↦ omega (arith, both.0, last_low, first)
          | inr second ↦ omega (arith, both.1, last_low, second)
        ]

    pub none_where_open : IsOpenAt least all met → ⊥
    none_where_open open_at = elim open_at [
      | inl one ↦
          let at = bracket_of_slot all met can.brackets one.0 run.known can.bounded one.1 in
          no_around at.0 at.1 (subst (IsAround least) (sym at.2) one.2)
      | inr two ↦
          let first = bracket_of_slot all met can.brackets two.0 run.known can.bounded two.2 in
          let second = bracket_of_slot all met can.brackets two.1 run.known can.bounded two.3 in
          no_overlapping first.0 second.0 first.1 second.1 (subst (λ (a : Bracket). DoOverlap least a (bracket_at can.brackets second.0)) (sym first.2) (subst (DoOverlap least (bracket all (met_at met two.0).doc)) (sym second.2) two.4))
    ]

-- ---- what is asked of a shard

-- the brackets and the chosen answer of a cut are within the floors exactly if those of any other hand are
pub within_exactly : (stage : Stage) (floors : Floors) (brackets : List Bracket) (picks : List ℕ) (told : Bool) → AreBracketsOf (shown_on stage) brackets
    → IsChosen brackets (length floors.spans) picks → (IsTrue told ↔ AreWithin brackets picks (threshold (shown_on stage)) floors)
    → IsTrue told ↔ IsWithinBy bracket stage.lanes floors stage.cut
within_exactly stage floors brackets picks told bounded chosen test =
    let here : ℕ = threshold (shown_on stage) in (
      λ yes. record { brackets = brackets; bounded = bounded; answer = picks; chosen = chosen; within = test.0 yes },
      λ is.
          let same : is.brackets ≡ brackets = one_bracketing bracket (shown_on stage) is.brackets brackets is.bounded bounded in
          let theirs : IsChosen brackets (length floors.spans) is.answer = subst (λ (bs : List Bracket). IsChosen bs (length floors.spans) is.answer) same is.chosen in
          let answer : is.answer ≡ picks = one_chosen brackets (length floors.spans) is.answer picks (risen_are_distinct brackets bounded.rise) theirs chosen in
          let within : AreWithin brackets is.answer here floors = subst (λ (bs : List Bracket). AreWithin bs is.answer here floors) same is.within in
          test.1 (subst (λ (ps : List ℕ). AreWithin brackets ps here floors) answer within),
    )

pub within_no : (stage : Stage) (floors : Floors) → (IsWithinBy bracket stage.lanes floors stage.cut → ⊥) → IsTrue false ↔ IsWithinBy bracket stage.lanes floors stage.cut
within_no stage floors cannot = (λ clash. absurd (cc), λ is. absurd (cannot is))

-- ---- what is reported

-- an answer of no rows is settled
pub tells_no_rows : (stage : Stage) (rows : ℕ) → rows ≡ 0 → TellsSettled bracket stage.lanes rows stage.cut true
tells_no_rows stage rows none = record {
  chosen = λ brackets picks bounded chosen.
      let size : length picks ≡ rows = omega (arith, ap length chosen.first, length-take rows chosen.all, none) in (
        λ _. record {
          once = chosen_once brackets rows picks chosen;
          most = omega (arith, size);
          whole = inl size;
          falling = λ k low. absurd (omega (arith, low, size, none));
          rest = λ i out some. absurd (omega (arith, some, size, none));
          unmet = λ some more. absurd (omega (arith, some, size, none));
        },
        λ _. refl,
      );
  any = λ can. refl;
}

pub tells_no : (stage : Stage) (rows : ℕ) → (CanSettleBy bracket stage.lanes rows stage.cut → ⊥) → TellsSettled bracket stage.lanes rows stage.cut false
tells_no stage rows cannot = record {
  chosen = λ brackets picks bounded chosen. (
    λ clash. absurd (cc),
    λ settled. absurd (cannot (record { brackets = brackets; bounded = bounded; answer = picks; inside = chosen_are_picks brackets rows picks chosen; settled = settled })),
  );
  any = λ can. absurd (cannot can);
}

pub tells_at_zero : (stage : Stage) (rows : ℕ) → threshold (shown_on stage) ≡ 0 → TellsSettled bracket stage.lanes rows stage.cut true
tells_at_zero stage rows zero = record {
  chosen = λ brackets picks bounded chosen.
      let all : List ShownLane = shown_on stage in
      let even : (i : ℕ) → i < length brackets → (bracket_at brackets i).hi ≤ (bracket_at brackets i).lo = λ i inside.
      let b : Bracket = bracket_at brackets i in
      let is : b ≡ bracket all b.doc = bounded.each i none inside in
      omega (arith, ap (λ (b : Bracket). b.lo) is, ap (λ (b : Bracket). b.hi) is, missing_within all b.doc, zero) in
      (λ _. rw (zero, chosen.first) (even_settled brackets rows chosen.all even chosen.same chosen.ordered), λ _. refl);
  any = λ can. refl;
}

pub tells_exactly : (stage : Stage) (rows : ℕ) (brackets : List Bracket) (picks : List ℕ) (told : Bool) → AreBracketsOf (shown_on stage) brackets → IsChosen brackets rows picks
    → (IsTrue told ↔ IsSettled brackets picks (threshold (shown_on stage)) rows) → TellsSettled bracket stage.lanes rows stage.cut told
tells_exactly stage rows brackets picks told bounded chosen is =
    let all : List ShownLane = shown_on stage in
    let threshold_here : ℕ = threshold all in
    record {
      chosen = λ others answer are first.
          let same : others ≡ brackets = one_bracketing bracket all others brackets are bounded in
          let one : answer ≡ picks = one_chosen brackets rows answer picks (risen_are_distinct brackets bounded.rise) (subst (λ (bs : List Bracket). IsChosen bs rows answer) same first) chosen in
          rw (same, one) is;
      any = λ can.
          let same : can.brackets ≡ brackets = one_bracketing bracket all can.brackets brackets can.bounded bounded in
          let inside : ArePicks brackets can.answer = subst (λ (bs : List Bracket). ArePicks bs can.answer) same can.inside in
          let settled : IsSettled brackets can.answer threshold_here rows = subst (λ (bs : List Bracket). IsSettled bs can.answer threshold_here rows) same can.settled in
          is.1 (chosen_is_settled brackets threshold_here rows can.answer picks (proper_of all brackets bounded) inside settled chosen);
    }

-- A settled answer is a top answer.
use Rattle.std.proofs.Common.{◌≡◌, ◌≢◌, ◌⊎◌, ◌<◌, ◌≤◌, ◌+◌, ◌-◌, ℕ, suc, true, false, List, [], ◌∷◌, length, get_or, sym, ap, ◌∙◌, inl, inr, arith}
use Rattle.std.specs.List.{All, list_any}
use Rattle.std.proofs.lemmas.Bool.{cases_lt, cases_order, cases_Bool}
use Rattle.std.proofs.lemmas.List.{length-map, get_or-map, get_or_default}
use Rattle.ats_impact.specs.Rank.{times, IsTopBy}
use Rattle.ats_bound.specs.declared.bracket.Bracket.{Bracket}
use Rattle.ats_bound.specs.Cut.{IsMet, names, threshold}
use Rattle.ats_bound.specs.Settled.{AreDistinct, ArePicks, IsSettled, IsOutside, bracket_at, last_row}
use Rattle.ats_bound.specs.Ranked.{CutLane, AreScores, HoldsScore, AreOfMet, answer_of, cut_of, docs_of}
use Rattle.ats_bound.proofs.Places.{times_same, times_other, stands, position_of, stands_twice}
use Rattle.ats_bound.proofs.Scores.{unmet_scores, met_below}

-- numbers of which no two are equal
once_of : (numbers : List ℕ) → ((j k : ℕ) → j < k → k < length numbers → get_or numbers j 0 ≢ get_or numbers k 0) → (m : ℕ) → times m numbers ≤ 1
once_of [] apart m = omega arith
once_of (x ∷ numbers) apart m =
    elim (cases_order x m) [
      | inl is ↦ elim (cases_lt 0 (times m numbers)) [
        | inl some ↦
            let found = position_of m numbers (omega (arith, some)) in
            absurd (apart 0 (suc found.0) (omega arith) (omega (arith, found.1)) (is ∙ sym found.2))
        | inr none ↦ omega (arith, times_same m x numbers is, none)
      ]
      | inr other ↦
          omega (
            arith,
            times_other m x numbers other,
            once_of numbers (λ j k less inside. apart (suc j) (suc k) (omega arith) (omega arith)) m,
          )
    ]

module _ (n : ℕ) (score : ℕ → ℕ) (lanes : List CutLane) (brackets : List Bracket) (picks : List ℕ) (are : AreScores n score lanes)
    (of_met : AreOfMet lanes brackets) (hold : All (HoldsScore score) brackets) (inside : ArePicks brackets picks)
    (once : AreDistinct picks) where
  abbrev answer : List ℕ
  answer = answer_of brackets picks

  abbrev doc_of : ℕ → ℕ
  doc_of i = (bracket_at brackets i).doc

  size : length answer ≡ length picks
  size = length-map picks doc_of

  -- the document of a row
  row_is : (k : ℕ) → k < length picks → get_or answer k 0 ≡ doc_of (get_or picks k 0)
  row_is k low = get_or-map doc_of picks k 0 0 low

  pick_low : (k : ℕ) → k < length picks → get_or picks k 0 < length brackets
  pick_low k low = inside k 0 low

  holds : (i : ℕ) → i < length brackets → HoldsScore score (bracket_at brackets i)
  holds i low = hold i (record { doc = 0; lo = 0; hi = 0 }) low

  -- the document of the bracket at a place
  doc_is : (i : ℕ) → i < length brackets → get_or (docs_of brackets) i 0 ≡ doc_of i
  doc_is i low = get_or-map (λ (b : Bracket). b.doc) brackets i (record { doc = 0; lo = 0; hi = 0 }) 0 low

  docs_size : length (docs_of brackets) ≡ length brackets
  docs_size = length-map brackets (λ (b : Bracket). b.doc)

  no_two : (i j : ℕ) → i < j → j < length brackets → doc_of i ≢ doc_of j
  no_two i j less low same =
      let twice = stands_twice (docs_of brackets) i j less (omega (arith, low, docs_size)) (doc_is i (omega (arith, less, low)) ∙ same ∙ sym (doc_is j low)) in
      let once = of_met.distinct (get_or (docs_of brackets) j 0) in
      omega (arith, twice, once)

  -- places of one document are one place
  same_place : (i j : ℕ) → i < length brackets → j < length brackets → doc_of i ≡ doc_of j → i ≡ j
  same_place i j low high same = elim (cases_order i j) [
    | inl is ↦ is
    | inr (inl less) ↦ absurd (no_two i j less high same)
    | inr (inr more) ↦ absurd (no_two j i more low (sym same))
  ]

  rows_apart : (j k : ℕ) → j < k → k < length answer → get_or answer j 0 ≢ get_or answer k 0
  rows_apart j k less low same =
      let high : k < length picks = omega (arith, low, size) in
      let before : j < length picks = omega (arith, less, high) in
      let docs : doc_of (get_or picks j 0) ≡ doc_of (get_or picks k 0) = sym (row_is j before) ∙ same ∙ row_is k high in
      let places : get_or picks j 0 ≡ get_or picks k 0 = same_place (get_or picks j 0) (get_or picks k 0) (pick_low j before) (pick_low k high) docs in
      omega (arith, stands_twice picks j k less high places, once (get_or picks k 0))

  -- a bracket's document is met
  is_met : (i : ℕ) → i < length brackets → IsMet (cut_of lanes) (doc_of i)
  is_met i low =
      let there : 1 ≤ times (get_or (docs_of brackets) i 0) (docs_of brackets) = stands (docs_of brackets) i (omega (arith, low, docs_size)) in
      (of_met.met (doc_of i)).1 (rw (doc_is i low) at there)

  -- a document that is not in the answer has no picked bracket
  outside : (doc i : ℕ) → times doc answer ≡ 0 → doc_of i ≡ doc → times i picks ≡ 0
  outside doc i out is = elim (cases_lt 0 (times i picks)) [
    | inr none ↦ omega (arith, none)
    | inl some ↦
        let found = position_of i picks (omega (arith, some)) in
        let low : found.0 < length picks = found.1 in
        let row : get_or answer found.0 0 ≡ doc = row_is found.0 low ∙ ap doc_of found.2 ∙ is in
        let there : 1 ≤ times (get_or answer found.0 0) answer = stands answer found.0 (omega (arith, low, size)) in
        omega (arith, rw row at there, out)
  ]

  -- a document that is not in the answer is that of a bracket outside it, or it is not met
  place_of : (doc : ℕ) → IsMet (cut_of lanes) doc → (i : ℕ) × (i < length brackets) × (doc_of i ≡ doc)
  place_of doc met =
      let found = position_of doc (docs_of brackets) ((of_met.met doc).0 met) in
      let low : found.0 < length brackets = omega (arith, found.1, docs_size) in
      (found.0, low, sym (doc_is found.0 low) ∙ found.2)

  scoring : All (λ doc. (doc < n) × (0 < score doc)) answer
  scoring k d low =
      let here : k < length picks = omega (arith, low, size) in
      let i : ℕ = get_or picks k 0 in
      let is : get_or answer k d ≡ doc_of i = get_or_default answer k d 0 low ∙ row_is k here in
      let low_doc : doc_of i < n = met_below n score lanes (doc_of i) are (is_met i (pick_low k here)) in
      rw is (low_doc, (holds i (pick_low k here)).scores)

  -- a document outside the answer scores at most what neither a bracket outside it nor the threshold exceeds
  others : (most : ℕ) → threshold (cut_of lanes) ≤ most → ((i : ℕ) → IsOutside brackets picks i → (bracket_at brackets i).hi ≤ most)
      → (doc : ℕ) → doc < n → times doc answer ≡ 0 → score doc ≤ most
  others most unmet_most above doc low out = elim (cases_Bool (list_any (names doc) (cut_of lanes))) [
    | inl met ↦
        let found = place_of doc met in
        let upper : score (doc_of found.0) ≤ (bracket_at brackets found.0).hi = (holds found.0 found.1).hi in
        omega (arith, rw found.2 at upper, above found.0 (found.1, outside doc found.0 out found.2))
    | inr unseen ↦
        let unmet : ¬ IsMet (cut_of lanes) doc = λ met. (let clash : true ≡ false = sym met ∙ unseen in cc) in
        omega (arith, unmet_scores n score lanes doc are low unmet, unmet_most)
  ]

  pub answer_is_bounded : (most : ℕ) → threshold (cut_of lanes) ≤ most → ((i : ℕ) → IsOutside brackets picks i → (bracket_at brackets i).hi ≤ most)
      → AreDistinct answer × All (λ doc. (doc < n) × (0 < score doc)) answer × ((doc : ℕ) → doc < n → times doc answer ≡ 0 → score doc ≤ most)
  answer_is_bounded most unmet_most above = (once_of answer rows_apart, scoring, others most unmet_most above)

  last_holds : 0 < length picks → (last_row brackets picks).lo ≤ score (get_or answer (length answer - 1) 0)
  last_holds some =
      let low : length picks - 1 < length picks = omega (arith, some) in
      let at : get_or answer (length answer - 1) 0 ≡ doc_of (get_or picks (length picks - 1) 0) = ap (λ m. get_or answer (m - 1) 0) size ∙ row_is (length picks - 1) low in
      rw at (holds (get_or picks (length picks - 1) 0) (pick_low (length picks - 1) low)).lo

  module _ (r : ℕ) (settled : IsSettled brackets picks (threshold (cut_of lanes)) r) where
    falling : (k : ℕ) → k + 1 < length answer → score (get_or answer (k + 1) 0) ≤ score (get_or answer k 0)
    falling k low =
        let next : k + 1 < length picks = omega (arith, low, size) in
        let here : k < length picks = omega (arith, next) in
        rw (row_is (k + 1) next, row_is k here)
        (omega (
          arith,
          (holds (get_or picks (k + 1) 0) (pick_low (k + 1) next)).hi,
          settled.falling k next,
          (holds (get_or picks k 0) (pick_low k here)).lo,
        ))

    whole : (length answer ≡ r) ⊎ ((doc : ℕ) → doc < n → times doc answer ≡ 0 → score doc ≡ 0)
    whole = elim settled.whole [
      | inl full ↦ inl (size ∙ full)
      | inr every ↦ inr (λ doc low out.
          let none : score doc ≤ 0 = others 0 (omega (arith, every.1)) (λ i outside. absurd (omega (arith, every.0 i outside.0, outside.1))) doc low out in
          omega (arith, none))
    ]

    unmet_within : 0 < length picks → threshold (cut_of lanes) ≤ (last_row brackets picks).lo
    unmet_within some = elim (cases_lt 0 (threshold (cut_of lanes))) [
      | inl high ↦ settled.unmet some high
      | inr none ↦ omega (arith, none)
    ]

    rest : (doc : ℕ) → doc < n → times doc answer ≡ 0 → 0 < length answer → score doc ≤ score (get_or answer (length answer - 1) 0)
    rest doc low out some =
        let more : 0 < length picks = omega (arith, some, size) in
        omega (arith, others (last_row brackets picks).lo (unmet_within more) (λ i outside. settled.rest i outside more) doc low out, last_holds more)

    pub settled_is_top : IsTopBy n score r answer
    settled_is_top = record {
      once = once_of answer rows_apart;
      most = omega (arith, size, settled.most);
      scoring = scoring;
      falling = falling;
      whole = whole;
      rest = rest;
    }

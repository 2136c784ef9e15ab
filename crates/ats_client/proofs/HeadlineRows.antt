-- The rows of an answer are bounded, and right if it is settled, if the lanes that are shown are cuts of lists that sum
-- to scores.
use Rattle.std.proofs.Common.{◌≡◌, ◌<◌, ◌≤◌, ◌∙◌, ℕ, suc, true, false, nat_eq, List, [], ◌∷◌, length, get_or, map, refl, sym, ap, ap₂, subst, inl, inr, arith}
use Rattle.std.specs.List.{All, list_any}
use Rattle.std.specs.List.Sorted.{IsStrictlyIncreasing}
use Rattle.std.proofs.lemmas.Bool.{cases_Bool, cases_order, cases_lt}
use Rattle.std.proofs.lemmas.Bool.Decides.{nat_tests}
use Rattle.std.proofs.lemmas.List.{length-map, get_or-map, get_or_default, map-id}
use Rattle.std.proofs.lemmas.Simd.{map-map}
use Rattle.std.proofs.lemmas.List.Elements.{All-head, All-tail, All-map, All-weaker}
use Rattle.std.proofs.lemmas.List.Kept.{AllPairs-from_increasing}
use Rattle.ats_impact.specs.Rank.{times, IsTopBy}
use Rattle.ats_impact.specs.Score.{score}
use Rattle.ats_impact.specs.declared.rank.Row.{Row}
use Rattle.ats_postings.specs.declared.entry.Entry.{Entry}
use Rattle.ats_bound.specs.declared.bracket.Bracket.{Bracket}
use Rattle.ats_bound.specs.Cut.{ShownLane, IsMet, names, threshold}
use Rattle.ats_bound.specs.Schedule.{Bounding}
use Rattle.ats_bound.specs.Settled.{AreDistinct, IsSettled, ArePicks, IsOutside, bracket_at}
use Rattle.ats_bound.specs.Ranked.{CutLane, AreScores, HoldsScore, AreOfMet, answer_of, cut_of, docs_of}
use Rattle.ats_bound.proofs.Public.{times_same, times_other, stands, position_of, settled_is_top, answer_is_bounded}
use Rattle.ats_proof.proofs.Public.{increasing-tail}
use Rattle.ats_proof.specs.Runs.{named}
use Rattle.ats_client.specs.Presented.{Presented, lane_of}
use Rattle.ats_client.specs.Indexes.{AreNames}
use Rattle.ats_client.specs.Groups.{indexes_of, met_at, AreAllMet, AreRowsRight, IsAnswerSettled, brackets_of}
use Rattle.ats_client.specs.Rows.{row_of}
use Rattle.ats_client.specs.Headline.{HoldsRow, AreRight}
use Rattle.ats_client.specs.Bounded.{row_documents, AreBounded}
use Rattle.ats_client.proofs.ListNotes.{names_inside}

-- ---- met ids

once_after : (x n : ℕ) (xs : List ℕ) → IsStrictlyIncreasing (x ∷ xs) → x ≡ n → times n xs ≡ 0
once_after x n xs rises is = elim (cases_lt 0 (times n xs)) [
  | inl some ↦
      let found = position_of n xs (omega (arith, some)) in
      let above : x < get_or xs found.0 0 = AllPairs-from_increasing (x ∷ xs) rises 0 (suc found.0) 0 (omega arith) (omega (arith, found.1)) in
      absurd (omega (arith, above, found.2, is))
  | inr none ↦ omega (arith, none)
]

-- numbers that rise are distinct
rising_distinct : (xs : List ℕ) → IsStrictlyIncreasing xs → AreDistinct xs
rising_distinct [] rises n = omega arith
rising_distinct (x ∷ xs) rises n =
    elim (cases_order x n) [
      | inl is ↦ omega (arith, times_same n x xs is, once_after x n xs rises is)
      | inr other ↦ omega (arith, times_other n x xs other, rising_distinct xs (increasing-tail x xs rises) n)
    ]

-- a document that named entries name is a met id
entries_met : (met : List ℕ) (doc : ℕ) (entries : List Entry) → All (λ (e : Entry). e.doc < length met) entries
    → list_any (λ (e : Entry). nat_eq e.doc doc) (map (named met) entries) ≡ true → 1 ≤ times doc met
entries_met met doc [] inside seen = absurd (cc)
entries_met met doc (e ∷ entries) inside seen =
    elim (cases_order (met_at met e.doc) doc) [
      | inl is ↦ subst (λ d. 1 ≤ times d met) is (stands met e.doc (All-head (λ (e : Entry). e.doc < length met) e entries inside))
      | inr other ↦
          let no : nat_eq (met_at met e.doc) doc ≡ false = grind (arith, nat_tests) in
          let later : list_any (λ (e : Entry). nat_eq e.doc doc) (map (named met) entries) ≡ true = rw no at seen in
          entries_met met doc entries (All-tail (λ (e : Entry). e.doc < length met) e entries inside) later
    ]

abbrev pub NamesMet : List ℕ → Presented → Type 0
NamesMet met one = AreNames (length met) (indexes_of one.prefix.entries)

-- a document that some lane names is a met id
lanes_met : (documents : ℕ) (met : List ℕ) (doc : ℕ) (terms : List Presented) → All (NamesMet met) terms
    → list_any (names doc) (map (lane_of documents met) terms) ≡ true → 1 ≤ times doc met
lanes_met documents met doc [] all seen = absurd (cc)
lanes_met documents met doc (one ∷ terms) all seen =
    elim (cases_Bool (names doc (lane_of documents met one))) [
      | inl here ↦ entries_met met doc one.prefix.entries (names_inside (length met) one.prefix.entries (All-head (NamesMet met) one terms all)) here
      | inr out ↦
          let later : list_any (names doc) (map (lane_of documents met) terms) ≡ true = rw out at seen in
          lanes_met documents met doc terms (All-tail (NamesMet met) one terms all) later
    ]

-- brackets by lanes and documents are those of their documents
abbrev pub AreOf : Bounding → List ShownLane → Type 0
AreOf bounds lanes = (doc : ℕ) → (bounds lanes doc).doc ≡ doc

met_docs : (bounds : Bounding) (lanes : List ShownLane) (met : List ℕ) → AreOf bounds lanes → docs_of (brackets_of bounds lanes met) ≡ met
met_docs bounds lanes met own_doc = map-map (λ (b : Bracket). b.doc) (bounds lanes) met ∙ (λ i. map (λ doc. own_doc doc i) met) ∙ map-id met

-- the brackets of the met documents are those of the documents that entries name
of_met : (bounds : Bounding) (documents : ℕ) (met : List ℕ) (terms : List Presented) (own : List CutLane) → AreOf bounds (map (lane_of documents met) terms)
    → map (lane_of documents met) terms ≡ cut_of own
    → IsStrictlyIncreasing met → All (NamesMet met) terms → AreAllMet (map (lane_of documents met) terms) met
    → AreOfMet own (brackets_of bounds (map (lane_of documents met) terms) met)
of_met bounds documents met terms own own_doc same rises named_met all =
    let lanes : List ShownLane = map (lane_of documents met) terms in
    let docs : docs_of (brackets_of bounds lanes met) ≡ met = met_docs bounds lanes met own_doc in
    record {
      distinct = subst AreDistinct (sym docs) (rising_distinct met rises);
      met = λ doc. (
        λ is. subst (λ ds. 1 ≤ times doc ds) (sym docs) (lanes_met documents met doc terms named_met (subst (λ ls. IsMet ls doc) (sym same) is)),
        λ some.
            let found = position_of doc met (subst (λ ds. 1 ≤ times doc ds) docs some) in
            subst (λ ls. IsMet ls doc) same (subst (λ d. IsMet lanes d) found.2 (all found.0 found.1)),
      );
    }

-- ---- brackets and rows

module _ (n : ℕ) (score_of : ℕ → ℕ) (bounds : Bounding) (lanes : List ShownLane) (own : List CutLane) (met answer : List ℕ) (same : lanes ≡ cut_of own)
    (scores : AreScores n score_of own) (holds : (i : ℕ) → i < length met → HoldsScore score_of (bounds lanes (met_at met i))) (rows : AreRowsRight met answer) where
  -- each bracket holds its score
  all_hold : All (HoldsScore score_of) (brackets_of bounds lanes met)
  all_hold = All-map (HoldsScore score_of) (bounds lanes) met (λ i d low.
      let is : get_or met i d ≡ met_at met i = get_or_default met i d 0 low in
      subst (λ (m : ℕ). HoldsScore score_of (bounds lanes m)) (sym is) (holds i low))

  picks : ArePicks (brackets_of bounds lanes met) answer
  picks k d low = omega (arith, rows.inside k d low, length-map met (bounds lanes))

  row_docs : (indexes : List ℕ) → All (λ i. i < length met) indexes → map (λ i. (bounds lanes (met_at met i)).doc) indexes ≡ answer_of (brackets_of bounds lanes met) indexes
  row_docs [] inside = refl
  row_docs (i ∷ indexes) inside =
      let none : Bracket = record { doc = 0; lo = 0; hi = 0 } in
      let low : i < length met = All-head (λ i. i < length met) i indexes inside in
      let is : get_or (brackets_of bounds lanes met) i none ≡ bounds lanes (met_at met i) = get_or-map (bounds lanes) met i 0 none low in
      ap₂ (λ (d : ℕ) (ds : List ℕ). d ∷ ds) (ap (λ (b : Bracket). b.doc) (sym is)) (row_docs indexes (All-tail (λ i. i < length met) i indexes inside))

  abbrev rows_made : List Row
  rows_made = map (λ index. row_of (bounds lanes (met_at met index))) answer

  rows_docs : map (λ (row : Row). row.doc) rows_made ≡ answer_of (brackets_of bounds lanes met) answer
  rows_docs = map-map (λ (row : Row). row.doc) (λ index. row_of (bounds lanes (met_at met index))) answer ∙ row_docs answer rows.inside

  -- a settled answer is a top answer
  pub rows_top : AreOfMet own (brackets_of bounds lanes met) → (r : ℕ) → IsAnswerSettled bounds lanes met answer r → IsTopBy n score_of r (map (λ (row : Row). row.doc) rows_made)
  rows_top of r settled =
      let rests : IsSettled (brackets_of bounds lanes met) answer (threshold (cut_of own)) r =
      subst (λ ls. IsSettled (brackets_of bounds lanes met) answer (threshold ls) r) same settled in
      subst (λ ds. IsTopBy n score_of r ds) (sym rows_docs)
      (settled_is_top n score_of own (brackets_of bounds lanes met) answer scores of all_hold picks rows.once r rests)

  -- and any answer is bounded
  pub rows_bounded : AreOfMet own (brackets_of bounds lanes met) → (most : ℕ) → threshold lanes ≤ most
      → ((i : ℕ) → IsOutside (brackets_of bounds lanes met) answer i → (bracket_at (brackets_of bounds lanes met) i).hi ≤ most)
      → AreDistinct (row_documents rows_made) × All (λ doc. (doc < n) × (0 < score_of doc)) (row_documents rows_made)
      × ((doc : ℕ) → doc < n → times doc (row_documents rows_made) ≡ 0 → score_of doc ≤ most)
  rows_bounded of most unmet above =
      subst (λ (ds : List ℕ). AreDistinct ds × All (λ doc. (doc < n) × (0 < score_of doc)) ds
      × ((doc : ℕ) → doc < n → times doc ds ≡ 0 → score_of doc ≤ most)) (sym rows_docs)
      (answer_is_bounded n score_of own (brackets_of bounds lanes met) answer scores of all_hold picks rows.once most
      (subst (λ (ls : List ShownLane). threshold ls ≤ most) same unmet) above)

  -- each row holds the score of its document
  pub rows_hold : All (λ (row : Row). (row.lower ≤ score_of row.doc) × (score_of row.doc ≤ row.upper)) rows_made
  rows_hold = All-map (λ (row : Row). (row.lower ≤ score_of row.doc) × (score_of row.doc ≤ row.upper))
      (λ index. row_of (bounds lanes (met_at met index))) answer (λ k d low.
      let held : HoldsScore score_of (bounds lanes (met_at met (get_or answer k d))) = holds (get_or answer k d) (rows.inside k d low) in
      (held.lo, held.hi))

-- the same for texts, by what a proof shows of their lists, if each bracket contains its score
module _ (texts : List (List ℕ)) (query : List (List ℕ × ℕ)) (bounds : Bounding) (documents : ℕ) (met answer : List ℕ) (terms : List Presented) (own : List CutLane)
    (own_doc : AreOf bounds (map (lane_of documents met) terms))
    (holds : (i : ℕ) → i < length met → HoldsScore (λ doc. score texts query (get_or texts doc [])) (bounds (map (lane_of documents met) terms) (met_at met i)))
    (same : map (lane_of documents met) terms ≡ cut_of own) (scores : AreScores (length texts) (λ doc. score texts query (get_or texts doc [])) own)
    (rises : IsStrictlyIncreasing met) (named_met : All (NamesMet met) terms) (all : AreAllMet (map (lane_of documents met) terms) met)
    (rows : AreRowsRight met answer) where
  abbrev shown : List ShownLane
  shown = map (lane_of documents met) terms

  abbrev scored : ℕ → ℕ
  scored doc = score texts query (get_or texts doc [])

  abbrev made : List Row
  made = map (λ index. row_of (bounds shown (met_at met index))) answer

  of : AreOfMet own (brackets_of bounds shown met)
  of = of_met bounds documents met terms own own_doc same rises named_met all

  bounded : All (HoldsRow texts query) made
  bounded =
      All-weaker (λ (row : Row). (row.lower ≤ scored row.doc) × (scored row.doc ≤ row.upper)) (HoldsRow texts query)
      (λ row held. record { least = held.0; most = held.1 }) made
      (rows_hold (length texts) scored bounds shown own met answer same scores holds rows)

  pub settled_rows_right : (r : ℕ) → IsAnswerSettled bounds shown met answer r → AreRight texts query r made
  settled_rows_right r settled = record {
    top = rows_top (length texts) scored bounds shown own met answer same scores holds rows of r settled;
    bounds = bounded;
  }

  pub shown_rows_bounded : (most : ℕ) → threshold shown ≤ most
      → ((i : ℕ) → IsOutside (brackets_of bounds shown met) answer i → (bracket_at (brackets_of bounds shown met) i).hi ≤ most)
      → AreBounded texts query made most
  shown_rows_bounded most unmet above =
      let found = rows_bounded (length texts) scored bounds shown own met answer same scores holds rows of most unmet above in
      record { once = found.0; scoring = found.1; bounds = bounded; others = found.2 }

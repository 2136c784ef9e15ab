-- If the brackets of a cut have no width, each is its document's score, and each document that scores above the threshold has
-- one. So it is by TRA, and at a threshold of 0.
use Rattle.std.proofs.Common.{◌≡◌, ◌<◌, ◌≤◌, ◌+◌, ◌*◌, ◌∙◌, ◌^◌, ℕ, suc, true, false, nat_eq, nat_lt, cond, List, [], ◌∷◌, length, map, take, get_or, ap, sym, refl, subst, inl, inr, arith}
use Rattle.std.specs.List.{All, list_any, sum_by}
use Rattle.std.proofs.Math.Nat.{mul-le-mul}
use Rattle.std.proofs.lemmas.Bool.{cases_Bool, eqb-true, ltb-false}
use Rattle.std.proofs.lemmas.Bool.Decides.{nat_tests}
use Rattle.std.proofs.lemmas.List.{get_or-map, length-map}
use Rattle.std.proofs.lemmas.List.Elements.{All-head, All-tail, All-nil, All-cons}
use Rattle.std.proofs.lemmas.List.Sums.{sum_by-cons, sum_by-le}
use Rattle.ats_terms.specs.Query.{IsQuery}
use Rattle.ats_impact.specs.Score.{coefficient, frequency, score}
use Rattle.ats_postings.specs.declared.entry.Entry.{Entry}
use Rattle.ats_postings.specs.Lists.{IsList, list}
use Rattle.ats_postings.proofs.Public.{list_frequency}
use Rattle.ats_bound.specs.declared.bracket.Bracket.{Bracket}
use Rattle.ats_bound.specs.Cut.{IsMet, ShownLane, names, threshold}
use Rattle.ats_bound.specs.Lookup.{AreImpactsOf}
use Rattle.ats_bound.specs.Ranked.{AreScores, CutLane, HoldsScore, IsCutLane, cut_of, impact_in, whole_score}
use Rattle.ats_bound.specs.Schedule.{AreBracketsBy, AreWholeLanes, IsCut, IsWholeLane, WholeLane, has_bracket, shown}
use Rattle.ats_bound.specs.Settled.{bracket_at}
use Rattle.ats_bound.proofs.Public.{bracket_holds, lookup_holds, met_below, score_listed, unmet_scores}
use Rattle.ats_proof.specs.declared.record.Algorithm.{Algorithm}
use Rattle.ats_proof.specs.declared.record.Algorithm.TheVariants.{Tra, Tnra}
use Rattle.ats_honest.specs.Lanes.{bounding, impacts_of, lane_of, lanes_of}
use Rattle.ats_honest.proofs.Public.{HasList, lanes_are_whole, lanes_have_lists, narrow, with_lane, with_none}
use Rattle.ats_catalog_honest.proofs.Sorted.{any_at, any_found}

-- ---- brackets that are scores

pub record IsExact (size : ℕ) (score_of : ℕ → ℕ) (b : Bracket) : Type 0 where
  pub inside : b.doc < size
  pub some : 0 < b.lo
  pub score : b.lo ≡ score_of b.doc
  pub even : b.hi ≡ b.lo

-- brackets of all documents that score above a number, at least, by document ascending
pub record AreExact (size : ℕ) (score_of : ℕ → ℕ) (unmet : ℕ) (brackets : List Bracket) : Type 0 where
  pub rise : (i j : ℕ) → i < j → j < length brackets → (bracket_at brackets i).doc < (bracket_at brackets j).doc
  pub each : (k : ℕ) → k < length brackets → IsExact size score_of (bracket_at brackets k)
  pub whole : (doc : ℕ) → doc < size → unmet < score_of doc → (k : ℕ) × (k < length brackets) × ((bracket_at brackets k).doc ≡ doc)

-- ---- what whole lanes add to a score

abbrev lane_part : ℕ → WholeLane → ℕ
lane_part doc lane = lane.coefficient * impact_in doc lane.entries

none_in : (doc : ℕ) (entries : List Entry) → length entries ≡ 0 → impact_in doc entries ≡ 0
none_in doc [] none = refl
none_in doc (entry ∷ entries) none = absurd (omega (arith, none))

module _ (texts : List (List ℕ)) where
  abbrev pair_part : ℕ → List ℕ × ℕ → ℕ
  pair_part doc pair = coefficient texts pair * impact_in doc (list texts pair.0)

  lanes_sum : (doc : ℕ) (query : List (List ℕ × ℕ)) → sum_by (lane_part doc) (lanes_of texts query) ≡ sum_by (pair_part doc) query
  lanes_sum doc [] = refl
  lanes_sum doc (pair ∷ query) =
      let step = sum_by-cons (pair_part doc) pair query in
      elim (cases_Bool (nat_lt 0 (frequency pair.0 texts))) [
        | inl is ↦
            ap (sum_by (lane_part doc)) (with_lane texts pair query is) ∙ sum_by-cons (lane_part doc) (lane_of texts pair) (lanes_of texts query)
            ∙ ap (λ n. pair_part doc pair + n) (lanes_sum doc query) ∙ sym step
        | inr not ↦
            let empty : length (list texts pair.0) ≡ 0 = omega (arith, ltb-false 0 (frequency pair.0 texts) not, list_frequency texts pair.0) in
            let nothing : pair_part doc pair ≡ coefficient texts pair * 0 = ap (λ n. coefficient texts pair * n) (none_in doc (list texts pair.0) empty) in
            let others : sum_by (lane_part doc) (lanes_of texts (pair ∷ query)) ≡ sum_by (pair_part doc) query =
            ap (sum_by (lane_part doc)) (with_none texts pair query not) ∙ lanes_sum doc query in
            omega (arith, step, nothing, others)
      ]

-- what a lane adds is small
impact_few : (n doc : ℕ) (entries : List Entry) → IsList n entries → n ≤ 65536 → impact_in doc entries ≤ 65536 * 2200
impact_few n doc entries is few =
    let each : All (λ (entry : Entry). cond (nat_eq entry.doc doc) entry.impact 0 ≤ 2200) entries = λ k d low. elim (cases_Bool (nat_eq (get_or entries k d).doc doc)) [
      | inl here ↦ rw here (is.impacts k d low).1
      | inr other ↦ rw other (omega arith)
    ] in
    let sum : impact_in doc entries ≤ length entries * 2200 = sum_by-le (λ (entry : Entry). cond (nat_eq entry.doc doc) entry.impact 0) 2200 entries each in
    omega (arith, sum, is.few, few)

-- ---- the lanes of a cut

abbrev cut_lanes : List WholeLane → List ℕ → List CutLane
cut_lanes [] cut = []
cut_lanes (lane ∷ lanes) [] = []
cut_lanes (lane ∷ lanes) (count ∷ cut) = record { coefficient = lane.coefficient; entries = lane.entries; shown = count } ∷ cut_lanes lanes cut

cut_is : (lanes : List WholeLane) (cut : List ℕ) → cut_of (cut_lanes lanes cut) ≡ shown lanes cut
cut_is [] cut = refl
cut_is (lane ∷ lanes) [] = refl
cut_is (lane ∷ lanes) (count ∷ cut) =
    ap (λ (ls : List ShownLane). record { coefficient = lane.coefficient; total = length lane.entries; shown = take count lane.entries } ∷ ls) (cut_is lanes cut)

sum_is : (doc : ℕ) (lanes : List WholeLane) (cut : List ℕ) → length cut ≡ length lanes → whole_score (cut_lanes lanes cut) doc ≡ sum_by (lane_part doc) lanes
sum_is doc [] cut size = refl
sum_is doc (lane ∷ lanes) [] size = absurd (omega (arith, size))
sum_is doc (lane ∷ lanes) (count ∷ cut) size =
    sum_by-cons (λ (l : CutLane). l.coefficient * impact_in doc l.entries) (record { coefficient = lane.coefficient; entries = lane.entries; shown = count }) (cut_lanes lanes cut)
    ∙ ap (λ n. lane_part doc lane + n) (sum_is doc lanes cut (omega (arith, size))) ∙ sym (sum_by-cons (lane_part doc) lane lanes)

entries_are : (lanes : List WholeLane) (cut : List ℕ) → length cut ≡ length lanes
    → map (λ (lane : CutLane). lane.entries) (cut_lanes lanes cut) ≡ map (λ (lane : WholeLane). lane.entries) lanes
entries_are [] cut size = refl
entries_are (lane ∷ lanes) [] size = absurd (omega (arith, size))
entries_are (lane ∷ lanes) (count ∷ cut) size = ap (λ (es : List (List Entry)). lane.entries ∷ es) (entries_are lanes cut (omega (arith, size)))

cut_tail : (lane : WholeLane) (lanes : List WholeLane) (count : ℕ) (cut : List ℕ) → IsCut (lane ∷ lanes) (count ∷ cut) → IsCut lanes cut
cut_tail lane lanes count cut is = record { size = omega (arith, is.size); each = λ i d low. is.each (suc i) d (omega (arith, low)) }

each_cut : (n : ℕ) (lanes : List WholeLane) (cut : List ℕ) → IsCut lanes cut → All (HasList n) lanes → All IsWholeLane lanes → All (IsCutLane n) (cut_lanes lanes cut)
each_cut n [] cut is lists whole = All-nil (IsCutLane n)
each_cut n (lane ∷ lanes) [] is lists whole = All-nil (IsCutLane n)
each_cut n (lane ∷ lanes) (count ∷ cut) is lists whole =
    let here = is.each 0 lane (omega arith) in
    All-cons (IsCutLane n) (record { coefficient = lane.coefficient; entries = lane.entries; shown = count }) (cut_lanes lanes cut)
    (record { weighs = (All-head IsWholeLane lane lanes whole).weighted.0; some = here.0; within = here.1; list = All-head (HasList n) lane lanes lists })
    (each_cut n lanes cut (cut_tail lane lanes count cut is) (All-tail (HasList n) lane lanes lists) (All-tail IsWholeLane lane lanes whole))

-- ---- the brackets of a cut

module _ (texts : List (List ℕ)) (query : List (List ℕ × ℕ)) (few : length texts ≤ 65536) (asked : IsQuery query) where
  abbrev lanes : List WholeLane
  lanes = lanes_of texts query

  abbrev score_at : ℕ → ℕ
  score_at doc = score texts query (get_or texts doc [])

  whole : AreWholeLanes lanes
  whole = lanes_are_whole texts query few asked

  part_few : (doc : ℕ) → All (λ (lane : WholeLane). lane_part doc lane ≤ 34935 * (65536 * 2200)) lanes
  part_few doc k d low =
      mul-le-mul (whole.each k d low).weighted.1 (impact_few (length texts) doc (get_or lanes k d).entries (lanes_have_lists texts query k d low) few)

  pub scores_fit : (doc : ℕ) → doc < length texts → score_at doc < 2 ^ 64
  scores_fit doc low =
      let sum : sum_by (lane_part doc) lanes ≤ length lanes * (34935 * (65536 * 2200)) = sum_by-le (lane_part doc) (34935 * (65536 * 2200)) lanes (part_few doc) in
      omega (arith, score_listed texts query doc low, lanes_sum texts doc query, sum, whole.few)

  module _ (algorithm : Algorithm) (cut : List ℕ) (is_cut : IsCut lanes cut) where
    abbrev own : List CutLane
    own = cut_lanes lanes cut

    scores : AreScores (length texts) score_at own
    scores = record {
      each = each_cut (length texts) lanes cut is_cut (lanes_have_lists texts query) whole.each;
      sums = λ doc low. score_listed texts query doc low ∙ sym (lanes_sum texts doc query) ∙ sym (sum_is doc lanes cut is_cut.size);
    }

    agrees : AreImpactsOf (impacts_of lanes) (map (λ (lane : CutLane). lane.entries) own)
    agrees i doc low =
        let same = entries_are lanes cut is_cut.size in
        let size : length (map (λ (lane : CutLane). lane.entries) own) ≡ length lanes = ap (λ (es : List (List Entry)). length es) same ∙ length-map lanes (λ (lane : WholeLane). lane.entries) in
        let at : get_or (map (λ (lane : CutLane). lane.entries) own) i [] ≡ (get_or lanes i (record { coefficient = 0; entries = [] })).entries =
        ap (λ (es : List (List Entry)). get_or es i []) same ∙ get_or-map (λ (lane : WholeLane). lane.entries) lanes i (record { coefficient = 0; entries = [] }) [] (omega (arith, low, size)) in
        ap (impact_in doc) (sym at)

    own_holds : (by : Algorithm) (doc : ℕ) → IsMet (cut_of own) doc → HoldsScore score_at (bounding by lanes (cut_of own) doc)
    own_holds Tnra doc met = bracket_holds (length texts) score_at own doc scores met
    own_holds Tra doc met = lookup_holds (length texts) score_at own (impacts_of lanes) doc scores agrees met

    holds : (doc : ℕ) → IsMet (shown lanes cut) doc → HoldsScore score_at (bounding algorithm lanes (shown lanes cut) doc)
    holds doc met =
        subst (λ (ls : List ShownLane). HoldsScore score_at (bounding algorithm lanes ls doc)) (cut_is lanes cut)
        (own_holds algorithm doc (subst (λ (ls : List ShownLane). IsMet ls doc) (sym (cut_is lanes cut)) met))

    abbrev formed : ℕ → Bracket
    formed doc = bounding algorithm lanes (shown lanes cut) doc

    module _ (even : (doc : ℕ) → (formed doc).hi ≤ (formed doc).lo) (brackets : List Bracket) (bounded : AreBracketsBy (bounding algorithm lanes) (shown lanes cut) brackets) where
      exact : (k : ℕ) → k < length brackets → IsExact (length texts) score_at (bracket_at brackets k)
      exact k low =
          let b : Bracket = bracket_at brackets k in
          let same : nat_eq b.doc b.doc ≡ true = grind (arith, nat_tests) in
          let met : IsMet (shown lanes cut) b.doc = sym (bounded.met b.doc) ∙ any_at (λ (one : Bracket). nat_eq one.doc b.doc) brackets k _ low same in
          let is : b ≡ formed b.doc = bounded.each k _ low in
          let low_is : b.lo ≡ (formed b.doc).lo = ap (λ (one : Bracket). one.lo) is in
          let high_is : b.hi ≡ (formed b.doc).hi = ap (λ (one : Bracket). one.hi) is in
          let thin = narrow algorithm lanes (shown lanes cut) b.doc in
          let hold : HoldsScore score_at (formed b.doc) = holds b.doc met in
          let score_is : score_at (formed b.doc).doc ≡ score_at b.doc = ap score_at thin.of in
          record {
            inside = met_inside b.doc met;
            some = omega (arith, low_is, hold.scores, hold.hi, even b.doc);
            score = omega (arith, low_is, hold.lo, hold.hi, score_is, even b.doc);
            even = omega (arith, low_is, high_is, thin.proper, even b.doc);
          }
        where
          met_inside : (doc : ℕ) → IsMet (shown lanes cut) doc → doc < length texts
          met_inside doc met = met_below (length texts) score_at own doc scores (subst (λ (ls : List ShownLane). IsMet ls doc) (sym (cut_is lanes cut)) met)

      found : (doc : ℕ) → doc < length texts → threshold (shown lanes cut) < score_at doc → (k : ℕ) × (k < length brackets) × ((bracket_at brackets k).doc ≡ doc)
      found doc low more = elim (cases_Bool (has_bracket doc brackets)) [
        | inl is ↦
            let at = any_found (λ (one : Bracket). nat_eq one.doc doc) brackets (record { doc = 0; lo = 0; hi = 0 }) is in
            (at.0, at.1, eqb-true (bracket_at brackets at.0).doc doc at.2)
        | inr not ↦
            let unmet : list_any (names doc) (cut_of own) ≡ false = ap (λ (ls : List ShownLane). list_any (names doc) ls) (cut_is lanes cut) ∙ sym (bounded.met doc) ∙ not in
            let within : score_at doc ≤ threshold (cut_of own) = unmet_scores (length texts) score_at own doc scores low (λ met. (let clash : true ≡ false = sym met ∙ unmet in cc)) in
            absurd (omega (arith, more, within, ap threshold (cut_is lanes cut)))
      ]

      are_exact : AreExact (length texts) score_at (threshold (shown lanes cut)) brackets
      are_exact = record { rise = bounded.rise; each = exact; whole = found }

    -- at a threshold of 0
    pub exact_whole : threshold (shown lanes cut) ≡ 0 → (brackets : List Bracket) → AreBracketsBy (bounding algorithm lanes) (shown lanes cut) brackets
        → AreExact (length texts) score_at 0 brackets
    exact_whole none brackets bounded =
        subst (λ (unmet : ℕ). AreExact (length texts) score_at unmet brackets) none
        (are_exact (λ doc. omega (arith, (narrow algorithm lanes (shown lanes cut) doc).narrow, none)) brackets bounded)

  -- by TRA
  pub exact_scores : (cut : List ℕ) → IsCut lanes cut → (brackets : List Bracket) → AreBracketsBy (bounding Tra lanes) (shown lanes cut) brackets
      → AreExact (length texts) score_at (threshold (shown lanes cut)) brackets
  exact_scores cut is_cut brackets bounded = are_exact Tra cut is_cut (λ doc. omega arith) brackets bounded

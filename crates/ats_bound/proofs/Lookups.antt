-- A score that is looked up in the impacts of whole lists is the document's score.
use Rattle.std.proofs.Common.{◌≡◌, ◌<◌, ◌+◌, ◌*◌, ℕ, suc, List, [], ◌∷◌, length, map, refl, sym, ap, ap₂, ◌∙◌, arith, add-zero}
use Rattle.std.specs.Prelude.{slice_index_or}
use Rattle.std.proofs.lemmas.List.{length-map}
use Rattle.std.proofs.lemmas.List.Sums.{sum_by-cons}
use Rattle.ats_postings.specs.declared.entry.Entry.{Entry}
use Rattle.ats_bound.specs.Cut.{IsMet}
use Rattle.ats_bound.specs.Ranked.{CutLane, AreScores, HoldsScore, cut_of, impact_in, whole_score}
use Rattle.ats_bound.specs.Lookup.{Table, AreImpactsOf, looked_score, looked_score_from, looked_up}
use Rattle.ats_bound.proofs.Scores.{bracket_holds, met_below}

abbrev entries_of : CutLane → List Entry
entries_of lane = lane.entries

abbrev whole_part : ℕ → CutLane → ℕ
whole_part doc lane = lane.coefficient * impact_in doc lane.entries

looked_is_whole : (i : ℕ) (table : Table) (lanes : List CutLane) (doc : ℕ)
    → ((j : ℕ) → j < length lanes → table (i + j) doc ≡ impact_in doc (slice_index_or (map entries_of lanes) j []))
    → looked_score_from i table (cut_of lanes) doc ≡ whole_score lanes doc
looked_is_whole i table [] doc agrees = refl
looked_is_whole i table (lane ∷ lanes) doc agrees =
    let here : table i doc ≡ impact_in doc lane.entries = ap (λ k. table k doc) (sym (add-zero i)) ∙ agrees 0 (omega arith) in
    let later = looked_is_whole (i + 1) table lanes doc
    (λ j low. ap (λ k. table k doc) (omega arith) ∙ agrees (suc j) (omega (arith, low))) in
    ap₂ (λ x y. lane.coefficient * x + y) here later ∙ sym (sum_by-cons (whole_part doc) lane lanes)

pub lookup_holds : (n : ℕ) (score : ℕ → ℕ) (lanes : List CutLane) (table : Table) (doc : ℕ) → AreScores n score lanes
    → AreImpactsOf table (map (λ (lane : CutLane). lane.entries) lanes) → IsMet (cut_of lanes) doc
    → HoldsScore score (looked_up table (cut_of lanes) doc)
lookup_holds n score lanes table doc are agrees met =
    let size : length (map entries_of lanes) ≡ length lanes = length-map lanes entries_of in
    let looked : looked_score table (cut_of lanes) doc ≡ whole_score lanes doc =
    looked_is_whole 0 table lanes doc (λ j low. ap (λ k. table k doc) (omega arith) ∙ agrees j doc (omega (arith, low, size))) in
    let is : score doc ≡ whole_score lanes doc = are.sums doc (met_below n score lanes doc are met) in
    record {
      lo = omega (arith, looked, is);
      hi = omega (arith, looked, is);
      scores = (bracket_holds n score lanes doc are met).scores;
    }

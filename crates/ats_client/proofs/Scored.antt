-- What the sections of met documents show that these score.
use Rattle.std.proofs.Common.{◌≡◌, ◌<◌, ◌≤◌, ◌+◌, ◌*◌, ◌^◌, ◌∙◌, ℕ, zero, suc, true, false, nat_eq, List, [], ◌∷◌, length, map, get_or, slice_get, Some, refl, sym, ap, ap₂, arith}
use Rattle.std.specs.List.Sorted.{IsStrictlyIncreasing}
use Rattle.std.proofs.lemmas.Bool.{cond-true, cond-false}
use Rattle.std.proofs.lemmas.Bool.Decides.{nat_tests}
use Rattle.std.proofs.lemmas.List.Kept.{AllPairs-from_increasing}
use Rattle.std.proofs.lemmas.Option.{get_or_from_slice_get, slice_get_within}
use Rattle.ats_bound.specs.declared.work.Mark.{Mark}
use Rattle.ats_bound.specs.Cut.{ShownLane, bracket, threshold as threshold_of}
use Rattle.ats_bound.specs.Lookup.{Table, looked_score, looked_score_from}
use Rattle.ats_proof.specs.Value.{TermsSection, Documents}
use Rattle.ats_proof.proofs.Public.{increasing-tail}
use Rattle.ats_client.specs.Bracketing.{impact_shown, impacts_shown, bounds_in}
use Rattle.ats_client.specs.Marked.{IsMark}
use Rattle.ats_client.specs.Presented.{Presented, lane_of}
use Rattle.ats_client.specs.Inner.KeptTerms.{kept_term, bare_lanes}

-- the impacts of a met document are those that its own section shows
pub impacts_at : (met : List ℕ) (sections : List TermsSection) (j id : ℕ) (section : TermsSection) (i : ℕ) → IsStrictlyIncreasing met
    → slice_get met j ≡ Some id → slice_get sections j ≡ Some section → impacts_shown met sections i id ≡ impact_shown section i
impacts_at [] sections j id section i rises at is = absurd (cc)
impacts_at (first ∷ met) [] j id section i rises at is = absurd (cc)
impacts_at (first ∷ met) (front ∷ sections) zero id section i rises at is =
    let same : first ≡ id = cc in
    let own : front ≡ section = cc in
    let yes : nat_eq first id ≡ true = grind (arith, nat_tests) in
    cond-true (nat_eq first id) (impact_shown front i) (impacts_shown met sections i id) yes ∙ ap (λ (s : TermsSection). impact_shown s i) own
impacts_at (first ∷ met) (front ∷ sections) (suc j) id section i rises at is =
    let low : j < length met = slice_get_within met j id at in
    let there : get_or met j 0 ≡ id = get_or_from_slice_get met j id 0 at in
    let above : first < get_or met j 0 = AllPairs-from_increasing (first ∷ met) rises 0 (suc j) 0 (omega arith) (omega (arith, low)) in
    let less : first < id = omega (arith, above, there) in
    let no : nat_eq first id ≡ false = grind (arith, nat_tests) in
    cond-false (nat_eq first id) (impact_shown front i) (impacts_shown met sections i id) no
    ∙ impacts_at met sections j id section i (increasing-tail first met rises) at is

-- a looked up score depends only on coefficients and impacts
looked_alike : (table other : Table) (doc documents : ℕ) (met : List ℕ) (i : ℕ) (terms : List Presented) → ((k : ℕ) → table k doc ≡ other k doc)
    → looked_score_from i table (bare_lanes (map (kept_term documents) terms)) doc ≡ looked_score_from i other (map (lane_of documents met) terms) doc
looked_alike table other doc documents met i [] same = refl
looked_alike table other doc documents met i (one ∷ terms) same =
    ap₂ (λ impact rest. (kept_term documents one).coefficient * impact + rest) (same i) (looked_alike table other doc documents met (i + 1) terms same)

-- what a document's section shows is its score by the impacts of all sections
pub section_scores : (met : List ℕ) (sections : List TermsSection) (j doc : ℕ) (section : TermsSection) (documents : ℕ) (terms : List Presented) → IsStrictlyIncreasing met
    → slice_get met j ≡ Some doc → slice_get sections j ≡ Some section
    → looked_score (λ i other. impact_shown section i) (bare_lanes (map (kept_term documents) terms)) doc
    ≡ looked_score (impacts_shown met sections) (map (lane_of documents met) terms) doc
section_scores met sections j doc section documents terms rises at is =
    looked_alike (λ i other. impact_shown section i) (impacts_shown met sections) doc documents met 0 terms
    (λ k. sym (impacts_at met sections j doc section k rises at is))

-- a mark with that score that holds all of the threshold
pub mark_scored : (met : List ℕ) (docs : Documents) (lanes : List ShownLane) (doc score threshold : ℕ) (mark : Mark) → IsMark bracket lanes doc mark
    → score ≡ looked_score (impacts_shown met docs.sections) lanes doc → score ≤ 2 ^ 38 → threshold ≡ threshold_of lanes
    → IsMark (bounds_in met (Some docs)) lanes doc (record { lo = score; held = threshold; list = mark.list; row = mark.row })
mark_scored met docs lanes doc score threshold mark is scores small all = record {
  least = scores;
  within = omega (arith, all);
  most = omega (arith, all, scores);
  named = is.named;
  small = omega (arith, small);
}

-- What is looked up of a term that some list has.
use Rattle.std.proofs.Common.{◌≡◌, ◌<◌, ◌≤◌, ℕ, false, cond, nat_eq, List, [], ◌∷◌, length, map, get_or, refl, ap, ◌∙◌, arith, inl, inr}
use Rattle.std.specs.List.{All}
use Rattle.std.proofs.lemmas.Bool.{cases_Bool, cases_lt, eqb-true}
use Rattle.std.proofs.lemmas.List.{get_or-map, get_or_past, length-map}
use Rattle.std.proofs.lemmas.List.Elements.{All-head, All-tail}
use Rattle.std.proofs.lemmas.List.Sorted.{sum_by-IsPermutation}
use Rattle.std.proofs.lemmas.List.Sums.{sum_by-cons}
use Rattle.ats_postings.specs.Lists.{list}
use Rattle.ats_postings.specs.Postings.{postings}
use Rattle.ats_postings.specs.declared.entry.Entry.{Entry}
use Rattle.ats_postings.proofs.Public.{list_is_sorted, postings_below}
use Rattle.ats_bound.specs.Ranked.{impact_in}
use Rattle.ats_bound.specs.Schedule.{WholeLane}
use Rattle.ats_bound.proofs.Public.{share}
use Rattle.ats_honest.specs.Lanes.{impacts_of, lane_of}

abbrev none : WholeLane
none = record { coefficient = 0; entries = [] }

-- entries of lower documents name none from there on
named_by_none : (es : List Entry) (n doc : ℕ) → All (λ (e : Entry). e.doc < n) es → n ≤ doc → impact_in doc es ≡ 0
named_by_none [] n doc all out = refl
named_by_none (e ∷ es) n doc all out =
    let other : nat_eq e.doc doc ≡ false = elim (cases_Bool (nat_eq e.doc doc)) [
      | inl same ↦ absurd (omega (arith, eqb-true e.doc doc same, All-head (λ (x : Entry). x.doc < n) e es all, out))
      | inr not ↦ not
    ] in
    let nothing : share doc e ≡ 0 = ap (λ b. cond b e.impact 0) other in
    omega (arith, sum_by-cons (share doc) e es, nothing, named_by_none es n doc (All-tail (λ (x : Entry). x.doc < n) e es all) out)

-- no list names a document past the last
listed_nowhere : (texts : List (List ℕ)) (term : List ℕ) (doc : ℕ) → length texts ≤ doc → impact_in doc (list texts term) ≡ 0
listed_nowhere texts term doc out =
    let same : impact_in doc (list texts term) ≡ impact_in doc (postings texts term) =
    sum_by-IsPermutation (share doc) (postings texts term) (list texts term) (list_is_sorted texts term).same in
    same ∙ named_by_none (postings texts term) (length texts) doc (postings_below (length texts) texts term) out

module _ (texts : List (List ℕ)) (terms : List (List ℕ × ℕ)) (i doc : ℕ) where
  -- in the list of its term
  pub looked_up_in : (d : List ℕ × ℕ) → i < length terms → impacts_of (map (lane_of texts) terms) i doc ≡ impact_in doc (list texts (get_or terms i d).0)
  looked_up_in d inside = ap (λ (lane : WholeLane). impact_in doc lane.entries) (get_or-map (lane_of texts) terms i d none inside)

  -- nothing past the last term
  pub looked_up_past : length terms ≤ i → impacts_of (map (lane_of texts) terms) i doc ≡ 0
  looked_up_past past =
      ap (λ (lane : WholeLane). impact_in doc lane.entries) (get_or_past (map (lane_of texts) terms) i none (omega (arith, past, length-map terms (lane_of texts))))

  -- nor past the last document
  pub looked_up_out : length texts ≤ doc → impacts_of (map (lane_of texts) terms) i doc ≡ 0
  looked_up_out out = elim (cases_lt i (length terms)) [
    | inl inside ↦ looked_up_in ([], 0) inside ∙ listed_nowhere texts (get_or terms i ([], 0)).0 doc out
    | inr past ↦ looked_up_past past
  ]

-- The brackets that a check forms of the met documents are those by which an honest proof is settled.
use Rattle.std.proofs.Common.{◌≡◌, ◌<◌, ◌+◌, ◌||◌, ℕ, true, false, cond, nat_eq, List, [], ◌∷◌, length, map, get_or, Option, None, Some, refl, sym, ap, ap₂, ◌∙◌, arith, inl, inr}
use Rattle.std.specs.List.{All}
use Rattle.std.specs.List.Sorted.{IsStrictlyIncreasing}
use Rattle.std.proofs.lemmas.Bool.{cases_Bool, cases_lt, eqb-true}
use Rattle.std.proofs.lemmas.List.{length-map, get_or-map, get_or_past}
use Rattle.std.proofs.lemmas.List.Elements.{All-head, All-tail}
use Rattle.std.proofs.lemmas.Simd.{map-map}
use Rattle.ats_postings.specs.Lists.{list}
use Rattle.ats_dict.specs.declared.spot.Spot.{Spot}
use Rattle.ats_dict.specs.declared.spot.Spot.TheVariants.{At, Between}
use Rattle.ats_doctree.specs.Impacts.{doc_terms}
use Rattle.ats_doctree.specs.Sentinels.{impact_at}
use Rattle.ats_bound.specs.declared.bracket.Bracket.{Bracket}
use Rattle.ats_bound.specs.Cut.{ShownLane}
use Rattle.ats_bound.specs.Ranked.{impact_in}
use Rattle.ats_bound.proofs.Public.{has_contained}
use Rattle.ats_proof.specs.declared.record.Algorithm.{Algorithm}
use Rattle.ats_proof.specs.declared.record.Algorithm.TheVariants.{Tra, Tnra}
use Rattle.ats_proof.specs.declared.record.Slot.{Slot}
use Rattle.ats_proof.specs.Value.{Documents, ShownTerm, TermsSection}
use Rattle.ats_client.specs.Groups.{slot_at}
use Rattle.ats_client.specs.Bracketing.{bounds_in, impact_shown, impacts_shown}
use Rattle.ats_client.proofs.Public.{looked_same}
use Rattle.ats_honest.specs.Terms.{has, place, slot_of}
use Rattle.ats_honest.specs.Lanes.{bounding, impacts_of, lane_of}
use Rattle.ats_honest.specs.Documents.{AreHonestSections, HasDocuments, IsHonestSection, IsTermSpot, shown_term}
use Rattle.ats_honest.proofs.Public.{looked_up_at, looked_up_between, looked_up_in, looked_up_past, one_of_spots, spots_each}
use Rattle.ats_accepts.proofs.ShownPlaces.{made_at_place}
use Rattle.ats_accepts.proofs.AcceptedSlots.{IsShown, needed_shown, shown_each}

-- the impact at the leaf that a slot names
abbrev impact_by : List ShownTerm → Slot → ℕ
impact_by leaves slot = cond slot.present (get_or (map (λ (leaf : ShownTerm). leaf.term.1) leaves) slot.index 0) 0

module _ (texts : List (List ℕ)) (doc : ℕ) (low : doc < length texts) where
  abbrev items : List (List ℕ × ℕ)
  items = doc_terms texts doc

  -- the slot of a term's spot shows the impact in the term's list
  spot_impact : (positions : List ℕ) (term : List ℕ) (spot : Spot) → IsStrictlyIncreasing positions → IsShown spot positions → IsTermSpot items term spot
      → impact_by (map (shown_term items) positions) (slot_of positions spot) ≡ impact_in doc (list texts term)
  spot_impact positions term (At p) rise shown is =
      ap (λ (impacts : List ℕ). get_or impacts (place positions p) 0) (map-map (λ (leaf : ShownTerm). leaf.term.1) (shown_term items) positions)
      ∙ made_at_place (impact_at items) positions p 0 rise (shown p (has_contained p (p ∷ []) (0, omega arith, refl)))
      ∙ sym (looked_up_at texts term doc low p is)
  spot_impact positions term (Between p) rise shown is = sym (looked_up_between texts term doc low p is)

  -- an honest section shows the impacts of its document
  section_impact : (H : List ℕ → List ℕ) (terms : List (List ℕ × ℕ)) (section : TermsSection) → IsHonestSection H items terms section → (i : ℕ)
      → impact_shown section i ≡ impacts_of (map (lane_of texts) terms) i doc
  section_impact H terms section honest i =
      let positions = honest.positions in
      let none : Slot = record { present = false; index = 0 } in
      let size = spots_each (IsTermSpot items) terms honest.spots honest.found in
      elim (cases_lt i (length terms)) [
        | inl inside ↦
            let within : i < length honest.spots = omega (arith, inside, size) in
            let spot : Spot = get_or honest.spots i (At 0) in
            let slot : slot_at section.slots i ≡ slot_of positions spot =
            ap (λ (all : List Slot). slot_at all i) honest.slots ∙ get_or-map (slot_of positions) honest.spots i (At 0) none within in
            ap₂ impact_by honest.leaves slot
            ∙ spot_impact positions (get_or terms i ([], 0)).0 spot honest.needed.rise (shown_each honest.spots positions i (At 0) within (needed_shown honest.spots positions honest.needed))
            (one_of_spots (IsTermSpot items) terms honest.spots i ([], 0) (At 0) honest.found inside)
            ∙ sym (looked_up_in texts terms i doc ([], 0) inside)
        | inr past ↦
            let slot : slot_at section.slots i ≡ none =
            ap (λ (all : List Slot). slot_at all i) honest.slots
            ∙ get_or_past (map (slot_of positions) honest.spots) i none (omega (arith, past, size, length-map honest.spots (slot_of positions))) in
            ap (impact_by section.leaves) slot ∙ sym (looked_up_past texts terms i doc past)
      ]

module _ (H : List ℕ → List ℕ) (texts : List (List ℕ)) (terms : List (List ℕ × ℕ)) where
  -- the sections of the met documents show theirs
  impacts_right : (met : List ℕ) (sections : List TermsSection) → AreHonestSections H texts terms met sections → All (λ doc. doc < length texts) met
      → (i doc : ℕ) → has doc met ≡ true → impacts_shown met sections i doc ≡ impacts_of (map (lane_of texts) terms) i doc
  impacts_right [] sections are low i doc stands = absurd (cc)
  impacts_right (id ∷ met) [] are low i doc stands = absurd are
  impacts_right (id ∷ met) (section ∷ sections) are low i doc stands =
      let Low : ℕ → Type 0 = λ (d : ℕ). d < length texts in
      let here : ℕ = impact_shown section i in
      let later : ℕ = impacts_shown met sections i doc in
      elim (cases_Bool (nat_eq id doc)) [
        | inl same ↦
            ap (λ b. cond b here later) same ∙ section_impact texts id (All-head Low id met low) H terms section are.0 i
            ∙ ap (λ (d : ℕ). impacts_of (map (lane_of texts) terms) i d) (eqb-true id doc same)
        | inr other ↦
            ap (λ b. cond b here later) other
            ∙ impacts_right met sections are.1 (All-tail Low id met low) i doc (ap (λ b. b || has doc met) (sym other) ∙ stands)
      ]

  -- so the brackets of met documents are those of the algorithm
  pub honest_bounds : (algorithm : Algorithm) (met : List ℕ) (docs : Option Documents) → HasDocuments algorithm H texts terms met docs → All (λ doc. doc < length texts) met
      → (lanes : List ShownLane) (doc : ℕ) → has doc met ≡ true → bounds_in met docs lanes doc ≡ bounding algorithm (map (lane_of texts) terms) lanes doc
  honest_bounds Tnra met None has_them low lanes doc stands = refl
  honest_bounds Tnra met (Some docs) has_them low lanes doc stands = absurd (cc)
  honest_bounds Tra met None has_them low lanes doc stands = absurd has_them
  honest_bounds Tra met (Some docs) has_them low lanes doc stands =
      ap (λ (score : ℕ). let b : Bracket = record { doc = doc; lo = score; hi = score } in b)
      (looked_same (impacts_shown met docs.sections) (impacts_of (map (lane_of texts) terms)) doc 0 lanes
      (λ k inside. impacts_right met docs.sections has_them.sections low (0 + k) doc stands))

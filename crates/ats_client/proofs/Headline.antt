-- If all that a proof shows is an archive's own, its rows are bounded, and right if the answer is settled. So for each
-- archive with the root they are, or two different strings have equal digests.
use Rattle.std.specs.List.{All}
use Rattle.std.proofs.Common.{◌≡◌, ◌⊎◌, ◌<◌, ℕ, List, [], length, get_or, map, Option, Some, None, refl, sym, subst, inl, inr}
use Rattle.std.specs.Prelude.{IsSome, MatchOption}
use Rattle.std.proofs.lemmas.List.Elements.{All-weaker}
use Rattle.ats_terms.specs.Query.{IsQuery}
use Rattle.ats_impact.specs.Score.{score}
use Rattle.ats_lists.specs.declared.format.Format.{Format}
use Rattle.ats_commit.specs.Archive.{Archive}
use Rattle.ats_commit.specs.Own.{AreTexts}
use Rattle.ats_commit.specs.Root.{root_of}
use Rattle.ats_commit.specs.Ours.{ours}
use Rattle.ats_tree.specs.Differences.{Difference, first_difference}
use Rattle.ats_tree.specs.declared.places.Place.{Place}
use Rattle.ats_bound.specs.Ranked.{CutLane, AreScores, HoldsScore, cut_of}
use Rattle.ats_proof.specs.Value.{Proof, AreDocumentsOf, present_in}
use Rattle.ats_proof.specs.Ranges.{IsInRange}
use Rattle.ats_client.specs.Presented.{Presented, presented, lane_of, lanes_of}
use Rattle.ats_client.specs.Groups.{IsListRight, IsAnswerSettled, met_at}
use Rattle.ats_client.specs.Bracketing.{bounds_of}
use Rattle.ats_base.specs.Rules.{AllHold}
use Rattle.ats_client.specs.Accepts.{section_rules, AcceptsShown, Accepts}
use Rattle.ats_client.specs.Rooted.{AreRooted}
use Rattle.ats_client.specs.Rows.{rows_of}
use Rattle.ats_client.specs.Strings.{strings_of, proof_collision, IsOwn, IsBound}
use Rattle.ats_client.specs.Headline.{AreRight, IsTopOrCollides}
use Rattle.ats_client.specs.Bounded.{rest_of, AreBounded, AreBoundedOrCollide}
use Rattle.ats_client.proofs.Bracketing.{own_doc}
use Rattle.ats_client.proofs.Kept.{sections_rooted}
use Rattle.ats_client.proofs.Sectioned.{shown_sections, accepted_shown, accepts_settled}
use Rattle.ats_client.proofs.Rests.{threshold_within, outside_within}
use Rattle.ats_client.proofs.Descent.{whole-binds, collision-is-difference}
use Rattle.ats_client.proofs.HeadlineBrackets.{brackets_hold}
use Rattle.ats_client.proofs.HeadlineRows.{NamesMet, settled_rows_right, shown_rows_bounded}
use Rattle.ats_client.proofs.OwnLanes.{AllOf, each_own, own_lanes, lanes_cut, each_cut, score_own}

-- the rules before the settling hold, and all that is shown is the archive's own
module _ (H : List ℕ → List ℕ) (archive : Archive) (query : List (List ℕ × ℕ)) (root : List ℕ) (proof : Proof) (are : AreTexts archive.texts) (asked : IsQuery query) (range : IsInRange proof)
    (size : length proof.lists ≡ present_in proof.slots) (parts : AreDocumentsOf proof proof.docs) (accepts : AcceptsShown H root query proof) (own : IsOwn H archive query proof) where
  abbrev texts : List (List ℕ)
  texts = archive.texts

  abbrev format : Format
  format = proof.format

  abbrev documents : ℕ
  documents = proof.header.documents

  abbrev met : List ℕ
  met = proof.met

  abbrev terms : List Presented
  terms = presented query proof

  abbrev lists : List CutLane
  lists = own_lanes texts query proof

  all : AllOf H format texts query documents met are own.numbers.number range.ids.small terms
  all = (each_own H archive query proof are asked range own.terms accepts.holds.1.1.0 (sym size), own.fronts, accepts.holds.1.1.1.0)

  same : map (lane_of documents met) terms ≡ cut_of lists
  same = lanes_cut H format texts query documents met are own.numbers.number range.ids.small terms all

  scores : AreScores (length texts) (λ doc. score texts query (get_or texts doc [])) lists
  scores = record {
    each = each_cut H format texts query documents met are own.numbers.number range.ids.small terms all;
    sums = λ doc low. score_own H archive query proof are asked range own.terms accepts.holds.1.1.0 accepts.holds.0.slots doc low;
  }

  holds : (i : ℕ) → i < length met → HoldsScore (λ doc. score texts query (get_or texts doc [])) (bounds_of proof (lanes_of query proof) (met_at met i))
  holds i low =
      brackets_hold H archive query proof are asked range (sym size) accepts.holds.1.1.0 accepts.holds.0.slots own accepts.holds.1.1.1.1.1.1.0 parts proof.docs refl
      (length texts) (λ doc. score texts query (get_or texts doc [])) scores same i low (accepts.holds.1.1.1.1.0 i low)

  named : All (NamesMet met) terms
  named = All-weaker (IsListRight H format met) (NamesMet met) (λ one right. right.names) terms accepts.holds.1.1.1.0

  pub own_rows_right : (r : ℕ) → IsAnswerSettled (bounds_of proof) (lanes_of query proof) met proof.answer r → AreRight texts query r (rows_of query proof)
  own_rows_right =
      settled_rows_right texts query (bounds_of proof) documents met proof.answer terms lists (own_doc met proof.docs (lanes_of query proof)) holds same scores
      range.ids.rise named accepts.holds.1.1.1.1.0 accepts.holds.1.1.1.1.1.1.1.0

  pub own_rows_bounded : AreBounded texts query (rows_of query proof) (rest_of query proof)
  own_rows_bounded =
      shown_rows_bounded texts query (bounds_of proof) documents met proof.answer terms lists (own_doc met proof.docs (lanes_of query proof)) holds same scores
      range.ids.rise named accepts.holds.1.1.1.1.0 accepts.holds.1.1.1.1.1.1.1.0
      (rest_of query proof) (threshold_within query proof) (outside_within query proof)

holds_or_some : (P : Type 0) (Q : Difference Place → Type 0) (difference : Option (Difference Place)) → MatchOption difference P Q → P ⊎ IsSome difference
holds_or_some P Q None holds = inl holds
holds_or_some P Q (Some c) holds = inr refl

-- if the rules of what a proof shows hold, all of it is the archive's own, or there is a collision
pub own_or_collides : (H : List ℕ → List ℕ) → ((m : List ℕ) → length (H m) ≡ 32) → (root : List ℕ) (query : List (List ℕ × ℕ)) (proof : Proof) → IsQuery query → IsInRange proof
    → length proof.lists ≡ present_in proof.slots → AllHold (section_rules H root query proof) → (archive : Archive) → AreTexts archive.texts → root_of H archive ≡ root
    → IsOwn H archive query proof ⊎ IsSome (proof_collision H archive query proof)
own_or_collides H sized root query proof asked range size hold archive are same =
    let under : AreRooted H (root_of H archive) query proof = subst (λ (digest : List ℕ). AreRooted H digest query proof) (sym same) (sections_rooted H root query proof hold) in
    let bound : IsBound H archive query proof = whole-binds H sized archive query proof are asked range (sym size) under in
    let found : proof_collision H archive query proof ≡ first_difference (ours H archive query) (strings_of H query proof) = collision-is-difference H archive query proof bound in
    elim (holds_or_some (IsOwn H archive query proof) (λ c. H c.theirs ≡ H c.ours) (first_difference (ours H archive query) (strings_of H query proof)) bound) [
      | inl own ↦ inl own
      | inr some ↦ inr (subst (λ (difference : Option (Difference Place)). IsSome difference) (sym found) some)
    ]

-- the headline of the rows and the rest, before the answer is settled
pub bounded_or_collides : (H : List ℕ → List ℕ) → ((m : List ℕ) → length (H m) ≡ 32) → (root : List ℕ) (query : List (List ℕ × ℕ)) (proof : Proof)
    → IsQuery query → IsInRange proof → length proof.lists ≡ present_in proof.slots → AreDocumentsOf proof proof.docs → AcceptsShown H root query proof → AreBoundedOrCollide H root query proof
bounded_or_collides H sized root query proof asked range size parts accepts archive are same =
    elim (own_or_collides H sized root query proof asked range size (shown_sections H root query proof accepts) archive are same) [
      | inl own ↦ inl (own_rows_bounded H archive query root proof are asked range size parts accepts own)
      | inr some ↦ inr some
    ]

-- the headline
pub top_or_collides : (H : List ℕ → List ℕ) → ((m : List ℕ) → length (H m) ≡ 32) → (root : List ℕ) (query : List (List ℕ × ℕ)) (r : ℕ) (proof : Proof)
    → IsQuery query → IsInRange proof → length proof.lists ≡ present_in proof.slots → AreDocumentsOf proof proof.docs → Accepts H root query r proof → IsTopOrCollides H root query r proof
top_or_collides H sized root query r proof asked range size parts accepts archive are same =
    let shown : AcceptsShown H root query proof = accepted_shown H root query proof r accepts in
    elim (own_or_collides H sized root query proof asked range size (shown_sections H root query proof shown) archive are same) [
      | inl own ↦ inl (own_rows_right H archive query root proof are asked range size parts shown own r (accepts_settled H root query proof r accepts))
      | inr some ↦ inr some
    ]

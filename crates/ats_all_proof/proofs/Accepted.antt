-- The check accepts the proof that shows all documents with every term of a query.
use Rattle.std.proofs.Common.{◌≡◌, ◌<◌, ◌≤◌, ◌∙◌, ℕ, true, List, [], ◌∷◌, length, map, get_or, Option, Some, None, refl, sym, ap, inl, inr, arith}
use Rattle.std.proofs.lemmas.Bool.{cases_Bool}
use Rattle.std.proofs.lemmas.List.{length-map}
use Rattle.ats_base.specs.Rules.{AllHold}
use Rattle.ats_dict.specs.declared.spot.Spot.{Spot}
use Rattle.ats_dict.specs.declared.spot.Spot.TheVariants.{At, Between}
use Rattle.ats_commit.specs.Archive.{Archive}
use Rattle.ats_commit.specs.Root.{root_of}
use Rattle.ats_commit.specs.Trees.{dictionary_of}
use Rattle.ats_bound.specs.Schedule.{WholeLane}
use Rattle.ats_proof.specs.Value.{Documents, Proof}
use Rattle.ats_proof.specs.declared.record.Algorithm.{Algorithm}
use Rattle.ats_proof.specs.declared.record.Algorithm.TheVariants.{Tra, Tnra}
use Rattle.ats_client.specs.Accepts.{section_rules}
use Rattle.ats_client.specs.WholeLists.{shows_whole}
use Rattle.ats_honest.specs.Documents.{HasDocuments}
use Rattle.ats_honest.specs.Lanes.{lane_of, lanes_of, present}
use Rattle.ats_honest.specs.Inner.Present.{standing}
use Rattle.ats_honest.specs.Terms.{slot_of}
use Rattle.ats_honest.proofs.Public.{spot_each, standing_present}
use Rattle.ats_all_check.specs.Documents.{are_present}
use Rattle.ats_all_check.specs.Rules.{AcceptsBoth, IsWhole}
use Rattle.ats_all_proof.specs.Made.{IsBothMade, both_cut}
use Rattle.ats_all_proof.proofs.Cuts.{both_shows_whole}

-- if each slot says that its term is present, each term has a leaf
all_stand : (query : List (List ℕ × ℕ)) (spots : List Spot) (positions : List ℕ) → length spots ≡ length query → are_present (map (slot_of positions) spots) ≡ true
    → standing query spots ≡ query
all_stand [] spots positions same is = refl
all_stand (pair ∷ query) [] positions same is = absurd (omega (arith, same))
all_stand (pair ∷ query) (At p ∷ spots) positions same is =
    ap (λ (pairs : List (List ℕ × ℕ)). pair ∷ pairs) (all_stand query spots positions (omega (arith, same)) is)
all_stand (pair ∷ query) (Between p ∷ spots) positions same is = absurd (cc)

-- a proof that shows documents is by TRA
by_tra : (H : List ℕ → List ℕ) (texts : List (List ℕ)) (terms : List (List ℕ × ℕ)) (met : List ℕ) (docs : Option Documents) → HasDocuments Tra H texts terms met docs
    → elim docs as (λ _. Algorithm) [ None ↦ Tnra | Some shown ↦ Tra ] ≡ Tra
by_tra H texts terms met None has = absurd has
by_tra H texts terms met (Some docs) has = refl

module _ (H : List ℕ → List ℕ) (archive : Archive) (query : List (List ℕ × ℕ)) (proof : Proof) (made : IsBothMade H archive query proof) where
  abbrev lanes : List WholeLane
  lanes = lanes_of archive.texts query

  -- each term then has a list
  all_have_lists : are_present proof.slots ≡ true → length lanes ≡ length query
  all_have_lists all =
      let shows = made.shows in
      let each : length shows.spots ≡ length query = spot_each (dictionary_of H archive) query shows.spots shows.found in
      let slots : are_present (map (slot_of shows.positions) shows.spots) ≡ true = ap are_present (sym shows.slots) ∙ all in
      let own : present archive.texts query ≡ query = sym (standing_present H archive query shows.spots shows.found) ∙ all_stand query shows.spots shows.positions each slots in
      length-map (present archive.texts query) (lane_of archive.texts) ∙ ap (λ (pairs : List (List ℕ × ℕ)). length pairs) own

  -- a list that the cut shows whole is seen as whole
  abbrev pub SeesWhole : Type 0
  SeesWhole = (place : ℕ) (d : WholeLane) → place < length lanes → get_or (both_cut archive.texts query) place 0 ≡ length (get_or lanes place d).entries
      → shows_whole query proof ≡ true

  whole_shown : 1 ≤ length query → SeesWhole → IsWhole query proof
  whole_shown some sees = elim (cases_Bool (are_present proof.slots)) [
    | inl all ↦
        let one = both_shows_whole archive.texts query (all_have_lists all) some in
        let d : WholeLane = record { coefficient = 0; entries = [] } in
        inr (sees one.place d one.inside (one.whole d))
    | inr absent ↦ inl absent
  ]

  -- if the rules of what the proof shows hold, the proof of a query with a term is accepted
  pub both_accepted : 1 ≤ length query → AllHold (section_rules H (root_of H archive) query proof) → SeesWhole → AcceptsBoth H (root_of H archive) query proof
  both_accepted some all sees = record {
    holds = (
      by_tra H archive.texts (present archive.texts query) proof.met proof.docs made.shows.docs,
      (ap (λ (rows : List ℕ). length rows) made.empty, (all, (whole_shown some sees, tt))),
    );
  }

-- The check accepts all that a proof shows of a cut of the lists, before the rows of its answer.
use Rattle.std.proofs.Common.{◌≡◌, ◌<◌, ◌≤◌, ℕ, List, length, map, sym, ap, ap₂, subst, ◌∙◌}
use Rattle.std.specs.List.{All}
use Rattle.std.specs.List.Sorted.{IsStrictlyIncreasing}
use Rattle.ats_base.specs.Rules.{AllHold}
use Rattle.ats_dict.specs.declared.header.Header.{Header}
use Rattle.ats_lists.specs.declared.format.Format.{Format}
use Rattle.ats_commit.specs.Archive.{Archive}
use Rattle.ats_commit.specs.Ours.{asked_term}
use Rattle.ats_commit.specs.Root.{root_of}
use Rattle.ats_commit.specs.Trees.{dictionary_of}
use Rattle.ats_bound.specs.Cut.{ShownLane}
use Rattle.ats_bound.specs.Schedule.{WholeLane, IsCut, shown}
use Rattle.ats_proof.specs.declared.record.Algorithm.{Algorithm}
use Rattle.ats_proof.specs.declared.record.Algorithm.TheVariants.{Tra}
use Rattle.ats_proof.specs.declared.record.Slot.{Slot}
use Rattle.ats_proof.specs.Value.{Prefix, Proof, ShownEntry}
use Rattle.ats_client.specs.Accepts.{section_rules}
use Rattle.ats_client.specs.Documents.{AreDocumentsRight, IsDocsTree, present_from, present_numbers}
use Rattle.ats_client.specs.Groups.{AreAllMet, AreListsRight, IsListRight}
use Rattle.ats_client.specs.Presented.{presented, presented_from}
use Rattle.ats_client.specs.Presented as client
use Rattle.ats_honest.specs.Terms.{shown_entry, slot_of}
use Rattle.ats_honest.specs.Lanes.{lanes_of, present}
use Rattle.ats_honest.specs.Honest.{AreMet, IsShownAt, prefixes}
use Rattle.ats_honest.proofs.Public.{lanes_have_lists, met_low, met_named, spot_each, standing_present}
use Rattle.ats_accepts.proofs.Asking.{asks_own}
use Rattle.ats_accepts.proofs.AcceptedSlots.{needed_shown}
use Rattle.ats_accepts.proofs.AcceptedTerms.{shown_dictionary, shown_opened, shown_slots}
use Rattle.ats_accepts.proofs.AcceptedSections.{numbers_ask}
use Rattle.ats_accepts.proofs.AcceptedDocuments.{shown_documents, partial_tree}
use Rattle.ats_accepts.proofs.AcceptedLists.{AreIn, AreFronts, front_lanes, fronts_right, show_terms}
use Rattle.ats_accepts.proofs.ShownPlaces.{at_place}

-- a document that a shown entry names is among those that the cut meets
named_in : (lanes : List ShownLane) (documents : List ℕ) → AreMet lanes documents → AreIn documents lanes
named_in lanes documents are doc is = at_place documents doc are.rise (are.named doc ∙ is)

module _ (H : List ℕ → List ℕ) (archive : Archive) (query : List (List ℕ × ℕ)) (algorithm : Algorithm) (cut documents : List ℕ) (proof : Proof)
    (is_cut : IsCut (lanes_of archive.texts query) cut) (are_met : AreMet (shown (lanes_of archive.texts query) cut) documents)
    (is : IsShownAt H archive query algorithm cut documents proof) where
  abbrev lanes : List WholeLane
  lanes = lanes_of archive.texts query

  abbrev cut_lanes : List ShownLane
  cut_lanes = shown lanes cut

  -- ---- the lists

  pub are_in : AreIn proof.met cut_lanes
  are_in = subst (λ (met : List ℕ). AreIn met cut_lanes) (sym is.met) (named_in cut_lanes documents are_met)

  abbrev dict : List ShownEntry
  dict = map (shown_entry (dictionary_of H archive)) is.positions

  abbrev slots : List Slot
  slots = map (slot_of is.positions) is.spots

  abbrev fronts : List Prefix
  fronts = prefixes H archive.format proof.met lanes cut

  presented_are : presented query proof ≡ presented_from dict 0 query slots fronts
  presented_are =
      ap (λ (d : List ShownEntry). presented_from d 0 query proof.slots proof.lists) is.dict
      ∙ ap₂ (λ (s : List Slot) (l : List Prefix). presented_from dict 0 query s l) is.slots is.lists

  -- the present terms show the fronts of their lists, as many entries as the cut says
  pub shown_presented : AreFronts H archive query proof.met lanes cut (presented query proof)
  shown_presented = subst (AreFronts H archive query proof.met lanes cut) (sym presented_are)
      (show_terms H archive query proof.met is.positions 0 query is.spots (asks_own query) is.needed.rise is.found
      (needed_shown is.spots is.positions is.needed) cut is_cut.size)

  number : proof.header.documents ≡ length archive.texts
  number = ap (λ (h : Header). h.documents) is.header

  -- the lanes that a check sees are those of the cut
  pub shown_lanes : client.lanes_of query proof ≡ cut_lanes
  shown_lanes =
      ap (λ (n : ℕ). map (client.lane_of n proof.met) (presented query proof)) number
      ∙ front_lanes H archive query proof.met lanes cut (presented query proof) shown_presented are_in

  shown_lists : AreListsRight H query proof
  shown_lists = subst (λ (format : Format). All (IsListRight H format proof.met) (presented query proof)) (sym is.format)
      (fronts_right H archive query proof.met (length archive.texts) lanes cut (presented query proof) shown_presented (lanes_have_lists archive.texts query) is_cut are_in)

  shown_met : AreAllMet (client.lanes_of query proof) proof.met
  shown_met = subst (λ (ls : List ShownLane). AreAllMet ls proof.met) (sym shown_lanes)
      (subst (AreAllMet cut_lanes) (sym is.met) (λ i inside. met_named cut_lanes documents are_met i 0 inside))

  -- ---- the met documents

  abbrev terms : List (List ℕ × ℕ)
  terms = present archive.texts query

  met_increases : IsStrictlyIncreasing proof.met
  met_increases = subst IsStrictlyIncreasing (sym is.met) are_met.rise

  pub met_within : All (λ doc. doc < length archive.texts) proof.met
  met_within = subst (All (λ doc. doc < length archive.texts)) (sym is.met)
      (met_low (length archive.texts) lanes cut documents (λ i d inside. (lanes_have_lists archive.texts query i d inside).documents) are_met)

  -- the numbers of the present terms give these terms
  named : map (asked_term query) (present_numbers proof) ≡ map (λ (pair : List ℕ × ℕ). pair.0) terms
  named =
      let entries = dictionary_of H archive in
      ap (λ (s : List Slot). map (asked_term query) (present_from 0 s)) is.slots
      ∙ numbers_ask (asked_term query) is.positions 0 query is.spots (spot_each entries query is.spots is.found) (asks_own query)
      ∙ ap (map (λ (pair : List ℕ × ℕ). pair.0)) (standing_present H archive query is.spots is.found)

  -- a tree without leaves is never rebuilt
  tree_accepted : (algorithm ≡ Tra → 1 ≤ length archive.texts) → IsDocsTree H proof
  tree_accepted some = partial_tree H archive.texts terms algorithm proof.met proof.docs proof.header number (ap (λ (h : Header). h.docs_root) is.header) is.docs some met_increases met_within

  documents_accepted : AreDocumentsRight H query proof
  documents_accepted = shown_documents H archive.texts terms query (present_numbers proof) named algorithm proof.met proof.docs is.docs

  -- all rules before those of the rows
  pub section_rules_hold : (algorithm ≡ Tra → 1 ≤ length archive.texts) → AllHold (section_rules H (root_of H archive) query proof)
  section_rules_hold some = (
    shown_opened H archive query algorithm cut documents proof is,
    (
      shown_dictionary H archive query algorithm cut documents proof is,
      (shown_slots H archive query algorithm cut documents proof is, (shown_lists, (shown_met, (tree_accepted some, (documents_accepted, tt))))),
    ),
  )

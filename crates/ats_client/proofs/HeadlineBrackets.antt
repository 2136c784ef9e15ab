-- If all that is shown is the archive's own, the brackets of met documents contain their scores, by either algorithm.
use Rattle.std.proofs.Common.{◌≡◌, ◌<◌, ◌+◌, ◌*◌, ◌∙◌, ℕ, zero, suc, List, [], ◌∷◌, length, map, get_or, slice_get, Option, Some, None, refl, sym, ap, ap₂, subst, arith, add-zero}
use Rattle.std.proofs.lemmas.List.{length-map, get_or-map}
use Rattle.std.proofs.lemmas.Option.{get_or_from_slice_get}
use Rattle.std.proofs.lemmas.Simd.{map-map}
use Rattle.ats_terms.specs.Query.{IsQuery}
use Rattle.ats_postings.specs.Lists.{list}
use Rattle.ats_postings.specs.declared.entry.Entry.{Entry}
use Rattle.ats_doctree.specs.declared.doc_leaf.DocLeaf.{DocLeaf}
use Rattle.ats_bound.specs.declared.bracket.Bracket.{Bracket}
use Rattle.ats_bound.specs.Cut.{ShownLane, IsMet}
use Rattle.ats_bound.specs.Lookup.{Table, looked_score, looked_score_from, looked_up}
use Rattle.ats_bound.specs.Ranked.{CutLane, AreScores, HoldsScore, cut_of, impact_in}
use Rattle.ats_bound.proofs.Public.{lookup_holds, bracket_holds}
use Rattle.ats_commit.specs.Archive.{Archive}
use Rattle.ats_commit.specs.Own.{AreTexts}
use Rattle.ats_commit.specs.Ours.{asked_term}
use Rattle.ats_proof.specs.Value.{TermsSection, Documents, Proof, AreDocuments, AreDocumentsOf, present_in}
use Rattle.ats_proof.specs.Ranges.{IsInRange}
use Rattle.ats_client.specs.Bracketing.{impact_shown, impacts_shown, bounds_in}
use Rattle.ats_client.specs.Documents.{MetDocument, documents_from, AreDocumentsRight}
use Rattle.ats_client.specs.Groups.{AreSlotsRight, met_at}
use Rattle.ats_client.specs.Presented.{Presented, presented, lane_of, lanes_of}
use Rattle.ats_client.specs.Strings.{IsOwn}
use Rattle.ats_client.proofs.OwnImpacts.{impact_own}
use Rattle.ats_client.proofs.OwnLanes.{own_lane, own_lanes}
use Rattle.ats_client.proofs.OwnSlots.{HasOwnSlot, own_slot}
use Rattle.ats_client.proofs.Scored.{impacts_at}

-- the met document at a place, with its leaf and its section
record HasOne (met : List ℕ) (leaves : List DocLeaf) (sections : List TermsSection) (i : ℕ) : Type 0 where
  one : MetDocument
  there : slice_get (documents_from met leaves sections) i ≡ Some one
  doc : slice_get met i ≡ Some one.doc
  part : slice_get sections i ≡ Some one.section

one_at : (met : List ℕ) (leaves : List DocLeaf) (sections : List TermsSection) (i : ℕ) → length leaves ≡ length met → length sections ≡ length met → i < length met
    → HasOne met leaves sections i
one_at [] leaves sections i leaf_each section_each low = absurd (omega (arith, low))
one_at (id ∷ met) [] sections i leaf_each section_each low = absurd (omega (arith, leaf_each))
one_at (id ∷ met) (leaf ∷ leaves) [] i leaf_each section_each low = absurd (omega (arith, section_each))
one_at (id ∷ met) (leaf ∷ leaves) (section ∷ sections) zero leaf_each section_each low =
    record { one = record { doc = id; leaf = leaf; section = section }; there = refl; doc = refl; part = refl }
one_at (id ∷ met) (leaf ∷ leaves) (section ∷ sections) (suc i) leaf_each section_each low =
    let later = one_at met leaves sections i (omega (arith, leaf_each)) (omega (arith, section_each)) (omega (arith, low)) in
    record { one = later.one; there = later.there; doc = later.doc; part = later.part }

-- tables with the same impacts of a document score it alike
pub looked_same : (table other : Table) (doc i : ℕ) (lanes : List ShownLane) → ((k : ℕ) → k < length lanes → table (i + k) doc ≡ other (i + k) doc)
    → looked_score_from i table lanes doc ≡ looked_score_from i other lanes doc
looked_same table other doc i [] same = refl
looked_same table other doc i (lane ∷ lanes) same =
    let here : table i doc ≡ other i doc = ap (λ k. table k doc) (sym (add-zero i)) ∙ same 0 (omega arith) ∙ ap (λ k. other k doc) (add-zero i) in
    let later = looked_same table other doc (i + 1) lanes
    (λ k low. ap (λ n. table n doc) (omega arith) ∙ same (suc k) (omega (arith, low)) ∙ ap (λ n. other n doc) (omega arith)) in
    ap₂ (λ x y. lane.coefficient * x + y) here later

module _ (H : List ℕ → List ℕ) (archive : Archive) (query : List (List ℕ × ℕ)) (proof : Proof) (are : AreTexts archive.texts) (asked : IsQuery query) (range : IsInRange proof)
    (enough : present_in proof.slots ≡ length proof.lists) (slots : AreSlotsRight query proof) (size : length proof.slots ≡ length query) (own : IsOwn H archive query proof)
    (right : AreDocumentsRight H query proof) (parts : AreDocumentsOf proof proof.docs) where
  abbrev texts : List (List ℕ)
  texts = archive.texts

  abbrev ones : List Presented
  ones = presented query proof

  abbrev entries_at : ℕ → List Entry
  entries_at k = get_or (map (λ (lane : CutLane). lane.entries) (own_lanes texts query proof)) k []

  -- the list of a present term
  entries_are : (k : ℕ) (d : Presented) → k < length ones → entries_at k ≡ list texts (asked_term query (get_or ones k d).number)
  entries_are k d low =
      let all : map (λ (lane : CutLane). lane.entries) (own_lanes texts query proof) ≡ map (λ (one : Presented). list texts (asked_term query one.number)) ones =
      map-map (λ (lane : CutLane). lane.entries) (own_lane texts query) ones in
      ap (λ (ls : List (List Entry)). get_or ls k []) all ∙ get_or-map (λ (one : Presented). list texts (asked_term query one.number)) ones k d [] low

  module _ (docs : Documents) (shown : proof.docs ≡ Some docs) where
    known : AreDocuments (length proof.met) (present_in proof.slots) docs
    known = subst (AreDocumentsOf proof) shown parts

    -- the impact of a present term in a met document
    true_impact : (i : ℕ) → i < length proof.met → (k : ℕ) → k < length ones → impacts_shown proof.met docs.sections k (met_at proof.met i) ≡ impact_in (met_at proof.met i) (entries_at k)
    true_impact i low k inside =
        let d : Presented = record { number = 0; weight = 0; entry = record { term = []; f = 0; root = [] }; prefix = record { entries = []; digests = [] } } in
        let term : List ℕ = asked_term query (get_or ones k d).number in
        let at = one_at proof.met docs.leaves docs.sections i known.leaf_each known.section_each low in
        let one : MetDocument = at.one in
        let doc : met_at proof.met i ≡ one.doc = get_or_from_slice_get proof.met i one.doc 0 at.doc in
        let slot : HasOwnSlot texts one k term = own_slot H archive query proof are asked range enough slots size own right docs shown i one at.there k inside d in
        let own_impact : impact_shown one.section k ≡ impact_in one.doc (list texts term) =
        impact_own texts one.doc slot.inside one.section slot.ranges slot.leaves k term slot.is_term slot.shows in
        ap (impacts_shown proof.met docs.sections k) doc
        ∙ impacts_at proof.met docs.sections i one.doc one.section k range.ids.rise at.doc at.part
        ∙ own_impact
        ∙ ap₂ (λ (n : ℕ) (es : List Entry). impact_in n es) (sym doc) (sym (entries_are k d inside))

    looked_holds : (n : ℕ) (score_of : ℕ → ℕ) → AreScores n score_of (own_lanes texts query proof) → lanes_of query proof ≡ cut_of (own_lanes texts query proof)
        → (i : ℕ) → i < length proof.met → IsMet (lanes_of query proof) (met_at proof.met i)
        → HoldsScore score_of (looked_up (impacts_shown proof.met docs.sections) (lanes_of query proof) (met_at proof.met i))
    looked_holds n score_of scores cut i low met =
        let doc : ℕ = met_at proof.met i in
        let true_table : Table = λ k d. impact_in d (entries_at k) in
        let lanes : List ShownLane = lanes_of query proof in
        let holds : HoldsScore score_of (looked_up true_table (cut_of (own_lanes texts query proof)) doc) =
        lookup_holds n score_of (own_lanes texts query proof) true_table doc scores (λ k d inside. refl) (subst (λ ls. IsMet ls doc) cut met) in
        let many = length-map ones (lane_of proof.header.documents proof.met) in
        let same : looked_score (impacts_shown proof.met docs.sections) lanes doc ≡ looked_score true_table lanes doc =
        looked_same (impacts_shown proof.met docs.sections) true_table doc 0 lanes (λ k inside.
        let number : 0 + k ≡ k = omega arith in
        ap (λ n. impacts_shown proof.met docs.sections n doc) number ∙ true_impact i low k (omega (arith, inside, many)) ∙ ap (λ n. true_table n doc) (sym number)) in
        let made : ℕ → Bracket = λ s. record { doc = doc; lo = s; hi = s } in
        subst (λ s. HoldsScore score_of (made s)) (sym same) (subst (λ ls. HoldsScore score_of (looked_up true_table ls doc)) (sym cut) holds)

  -- the brackets of the proof's algorithm
  pub brackets_hold : (docs : Option Documents) → proof.docs ≡ docs → (n : ℕ) (score_of : ℕ → ℕ) → AreScores n score_of (own_lanes texts query proof)
      → lanes_of query proof ≡ cut_of (own_lanes texts query proof) → (i : ℕ) → i < length proof.met → IsMet (lanes_of query proof) (met_at proof.met i)
      → HoldsScore score_of (bounds_in proof.met docs (lanes_of query proof) (met_at proof.met i))
  brackets_hold (Some docs) shown n score_of scores cut i low met = looked_holds docs shown n score_of scores cut i low met
  brackets_hold None shown n score_of scores cut i low met =
      subst (λ ls. HoldsScore score_of (bounds_in proof.met None ls (met_at proof.met i))) (sym cut)
      (bracket_holds n score_of (own_lanes texts query proof) (met_at proof.met i) scores (subst (λ ls. IsMet ls (met_at proof.met i)) cut met))

-- Each query over an archive has an honest proof by each algorithm.
use Rattle.std.proofs.Common.{◌≡◌, ◌<◌, ◌≤◌, ℕ, Bool, nat_eq, nat_lt, List, [], ◌∷◌, length, map, get_or, Option, Some, None, refl, sym, subst, arith}
use Rattle.std.specs.List.{All, dedup, flat_map}
use Rattle.std.specs.Ordering.{is_lt, nat_cmp}
use Rattle.std.proofs.Math.Nat.{mul-le-mul}
use Rattle.std.proofs.lemmas.Cmp.{nat_cmp_total}
use Rattle.std.proofs.lemmas.List.{get_or-map, length-map}
use Rattle.std.proofs.lemmas.List.Elements.{All-filter}
use Rattle.std.proofs.lemmas.List.MinMax.{ranks_by}
use Rattle.std.proofs.lemmas.List.Sums.{get_or-le-sum_by}
use Rattle.ats_terms.specs.Query.{IsQuery}
use Rattle.ats_impact.specs.Numbers.{idf}
use Rattle.ats_impact.specs.Score.{frequency}
use Rattle.ats_postings.specs.Lists.{IsList, list}
use Rattle.ats_postings.proofs.Public.{list_frequency}
use Rattle.ats_tree.specs.Elided.{elided_digests}
use Rattle.ats_dict.specs.declared.spot.Spot.{Spot}
use Rattle.ats_doctree.specs.Impacts.{doc_terms}
use Rattle.ats_commit.specs.Archive.{Archive}
use Rattle.ats_commit.specs.Own.{AreTexts}
use Rattle.ats_commit.specs.Trees.{documents_of}
use Rattle.ats_bound.specs.Chosen.{IsChosen}
use Rattle.ats_bound.specs.Cut.{ShownLane, bracket, threshold}
use Rattle.ats_bound.specs.Floors.{Floors, IsWithinBy}
use Rattle.ats_bound.specs.Ranked.{docs_of}
use Rattle.ats_bound.specs.Narrow.{AreNarrow}
use Rattle.ats_bound.specs.Schedule.{AreWholeLanes, CanSettleBy, IsCut, IsFirstCut, IsWholeLane, WholeLane, shown}
use Rattle.ats_bound.proofs.Public.{brackets_are_narrow, first_settled_exists, first_within_exists, looked_up_are_narrow, brackets_exist, chosen_exists, sorts}
use Rattle.ats_proof.specs.declared.record.Algorithm.{Algorithm}
use Rattle.ats_proof.specs.declared.record.Algorithm.TheVariants.{Tra, Tnra}
use Rattle.ats_proof.specs.Value.{Documents, Proof, TermsSection}
use Rattle.ats_honest.specs.Terms.{AreNeeded, needs}
use Rattle.ats_honest.specs.Lanes.{bounding, impacts_of, lane_of, lanes_of, present}
use Rattle.ats_honest.specs.Documents.{AreHonestSections, HasDocuments, IsHonestSection, document_leaf}
use Rattle.ats_honest.specs.Honest.{IsCutShown, IsHonest, IsHonestBy, IsHonestWithin, IsShownAt}
use Rattle.ats_honest.proofs.Items.{is_section, section_of}
use Rattle.ats_honest.proofs.MetDocuments.{brackets_met}
use Rattle.ats_honest.proofs.Needed.{are_needed}
use Rattle.ats_honest.proofs.Present.{few_idf, lanes_few, lanes_have_lists, some_idf}
use Rattle.ats_honest.proofs.Standing.{HasTerm, entry_spots, item_spots}
use Rattle.ats_honest.proofs.Whole.{proof_of, shown_of}

-- the positions that spots need can be put in order
needed_exist : (spots : List Spot) → (positions : List ℕ) × AreNeeded spots positions
needed_exist spots =
    let all : List ℕ = flat_map needs spots in
    let order = ranks_by nat_cmp_total (λ (n : ℕ). n) in
    let sorted = sorts (λ (m : ℕ) (n : ℕ). is_lt (nat_cmp m n)) order.one_way all in
    (dedup nat_eq sorted.0, are_needed spots all sorted.0 (dedup nat_eq sorted.0) refl sorted.1 sorted.2 refl)

-- ---- lanes

-- how often a term occurs in a query
abbrev IsWeighed : List ℕ × ℕ → Type 0
IsWeighed pair = (1 ≤ pair.1) × (pair.1 ≤ 255)

lane_is_whole : (texts : List (List ℕ)) (pair : List ℕ × ℕ) → length texts ≤ 65536 → IsWeighed pair → IsList (length texts) (list texts pair.0) → IsWholeLane (lane_of texts pair)
lane_is_whole texts pair few weighed list =
    let f : 1 ≤ frequency pair.0 texts = omega (arith, list.some, list_frequency texts pair.0) in
    let low : 1 ≤ idf (length texts) (frequency pair.0 texts) = some_idf (length texts) (frequency pair.0 texts) in
    let high : idf (length texts) (frequency pair.0 texts) ≤ 128 = few_idf (length texts) (frequency pair.0 texts) few f in
    record {
      weighted = (omega (arith, mul-le-mul weighed.0 low), omega (arith, mul-le-mul weighed.1 high));
      some = list.some;
      few = omega (arith, list.few, few);
      impacts = λ k d inside. (list.impacts k d inside).0;
      falling = list.falling;
      once = list.once;
    }

-- the lanes of a query are whole
pub lanes_are_whole : (texts : List (List ℕ)) (query : List (List ℕ × ℕ)) → length texts ≤ 65536 → IsQuery query → AreWholeLanes (lanes_of texts query)
lanes_are_whole texts query few is =
    let terms : List (List ℕ × ℕ) = present texts query in
    let has : List ℕ × ℕ → Bool = λ (pair : List ℕ × ℕ). nat_lt 0 (frequency pair.0 texts) in
    let size : length (lanes_of texts query) ≡ length terms = length-map terms (lane_of texts) in
    let all : All IsWeighed query = λ k d inside. (is.weighed k d inside, omega (arith, get_or-le-sum_by (λ (pair : List ℕ × ℕ). pair.1) query k d inside, is.weights)) in
    record {
      few = omega (arith, lanes_few texts query, is.few);
      each = λ k d inside.
          let pair : List ℕ × ℕ = get_or terms k ([], 0) in
          let here : k < length terms = omega (arith, size, inside) in
          let at : get_or (lanes_of texts query) k d ≡ lane_of texts pair = get_or-map (lane_of texts) terms k ([], 0) d here in
          let list : IsList (length texts) (get_or (lanes_of texts query) k d).entries = lanes_have_lists texts query k d inside in
          subst IsWholeLane (sym at) (lane_is_whole texts pair few (All-filter has IsWeighed query all k ([], 0) here) (subst (λ (lane : WholeLane). IsList (length texts) lane.entries) at list));
    }

pub narrow : (algorithm : Algorithm) (lanes : List WholeLane) → AreNarrow (bounding algorithm lanes)
narrow Tnra lanes = brackets_are_narrow
narrow Tra lanes = looked_up_are_narrow (impacts_of lanes)

-- ---- documents

section_exists : (H : List ℕ → List ℕ) (texts : List (List ℕ)) (terms : List (List ℕ × ℕ)) (doc : ℕ) → All HasTerm terms
    → (section : TermsSection) × IsHonestSection H (doc_terms texts doc) terms section
section_exists H texts terms doc all =
    let items : List (List ℕ × ℕ) = doc_terms texts doc in
    let spots = item_spots texts doc terms all in
    let positions = needed_exist spots.0 in
    (section_of H items spots.0 positions.0, is_section H items terms spots.0 positions.0 spots.1 positions.1)

sections_exist : (H : List ℕ → List ℕ) (texts : List (List ℕ)) (terms : List (List ℕ × ℕ)) (met : List ℕ) → All HasTerm terms
    → (sections : List TermsSection) × AreHonestSections H texts terms met sections
sections_exist H texts terms [] all = ([], tt)
sections_exist H texts terms (doc ∷ met) all =
    let here = section_exists H texts terms doc all in
    let later = sections_exist H texts terms met all in
    (here.0 ∷ later.0, (here.1, later.1))

documents_exist : (algorithm : Algorithm) (H : List ℕ → List ℕ) (texts : List (List ℕ)) (terms : List (List ℕ × ℕ)) (met : List ℕ) → All HasTerm terms
    → (docs : Option Documents) × HasDocuments algorithm H texts terms met docs
documents_exist Tnra H texts terms met all = (None, refl)
documents_exist Tra H texts terms met all =
    let sections = sections_exist H texts terms met all in
    let docs : Documents = record {
      leaves = map (document_leaf H texts) met;
      digests = elided_digests H (documents_of H texts) met;
      sections = sections.0;
    } in
    (Some docs, record { leaves = refl; digests = refl; sections = sections.1 })

-- ---- all together

-- a proof of any cut, with any documents as the met ones and any rows
shown_exists : (H : List ℕ → List ℕ) (archive : Archive) (query : List (List ℕ × ℕ)) (algorithm : Algorithm) (cut documents picks : List ℕ) → IsQuery query
    → (proof : Proof) × IsShownAt H archive query algorithm cut documents proof × (proof.answer ≡ picks)
shown_exists H archive query algorithm cut documents picks is =
    let has : List ℕ × ℕ → Bool = λ (pair : List ℕ × ℕ). nat_lt 0 (frequency pair.0 archive.texts) in
    let spots = entry_spots H archive query is.terms in
    let positions = needed_exist spots.0 in
    let docs = documents_exist algorithm H archive.texts (present archive.texts query) documents (All-filter has HasTerm query is.terms) in (
      proof_of H archive query spots.0 positions.0 cut documents docs.0 picks,
      shown_of H archive query algorithm spots.0 positions.0 cut documents docs.0 picks spots.1 positions.1 docs.1,
      refl,
    )

-- the proof of any cut that has no answer
pub cut_shown_exists : (H : List ℕ → List ℕ) (archive : Archive) (query : List (List ℕ × ℕ)) (algorithm : Algorithm) (cut : List ℕ) → IsQuery query
    → (proof : Proof) × IsCutShown H archive query algorithm cut proof
cut_shown_exists H archive query algorithm cut is =
    let lanes : List ShownLane = shown (lanes_of archive.texts query) cut in
    let made = brackets_exist bracket lanes (λ doc. refl) in
    let shows = shown_exists H archive query algorithm cut (docs_of made.0) [] is in
    (shows.0, record { documents = docs_of made.0; met = brackets_met lanes made.0 made.1; shows = shows.1; empty = shows.2 })

-- the honest proof of a walk that ends
pub honest_by : (Stops : List ℕ → Type 0) (rows : ℕ) (H : List ℕ → List ℕ) (archive : Archive) (query : List (List ℕ × ℕ)) (algorithm : Algorithm) → IsQuery query
    → ((cut : List ℕ) × IsFirstCut Stops (lanes_of archive.texts query) cut) → (proof : Proof) × IsHonestBy Stops rows H archive query algorithm proof
honest_by Stops rows H archive query algorithm is ending =
    let lanes : List WholeLane = lanes_of archive.texts query in
    let made = brackets_exist (bounding algorithm lanes) (shown lanes ending.0) (λ doc. (narrow algorithm lanes (shown lanes ending.0) doc).of) in
    let answer = chosen_exists made.0 rows in
    let shows = shown_exists H archive query algorithm ending.0 (docs_of made.0) answer.0 is in
    (shows.0, record { cut = ending.0; first = ending.1; brackets = made.0; bounds = made.1; shows = shows.1; answer = subst (IsChosen made.0 rows) (sym shows.2) answer.1 })

pub honest_exists : (H : List ℕ → List ℕ) (archive : Archive) (query : List (List ℕ × ℕ)) (r : ℕ) (algorithm : Algorithm) → AreTexts archive.texts → IsQuery query
    → (proof : Proof) × IsHonest H archive query r algorithm proof
honest_exists H archive query r algorithm are is =
    let lanes : List WholeLane = lanes_of archive.texts query in
    honest_by (CanSettleBy (bounding algorithm lanes) lanes r) r H archive query algorithm is
    (first_settled_exists (bounding algorithm lanes) lanes r (narrow algorithm lanes) (lanes_are_whole archive.texts query are.within.few is))

-- that of a shard, if its whole lists are within the floors
pub within_exists : (H : List ℕ → List ℕ) (archive : Archive) (query : List (List ℕ × ℕ)) (floors : Floors) (algorithm : Algorithm) → AreTexts archive.texts → IsQuery query
    → ((cut : List ℕ) → IsCut (lanes_of archive.texts query) cut → threshold (shown (lanes_of archive.texts query) cut) ≡ 0
    → IsWithinBy (bounding algorithm (lanes_of archive.texts query)) (lanes_of archive.texts query) floors cut)
    → (proof : Proof) × IsHonestWithin H archive query floors algorithm proof
within_exists H archive query floors algorithm are is at_none =
    let lanes : List WholeLane = lanes_of archive.texts query in
    honest_by (IsWithinBy (bounding algorithm lanes) lanes floors) (length floors.spans) H archive query algorithm is
    (first_within_exists (bounding algorithm lanes) lanes floors (narrow algorithm lanes) (lanes_are_whole archive.texts query are.within.few is) at_none)

-- The lanes of a proof that shows an archive's own leaves are cuts of the archive's lists, which sum to scores.
use Rattle.std.proofs.Common.{◌≡◌, ◌<◌, ◌≤◌, ◌+◌, ◌*◌, ◌^◌, ◌∙◌, ℕ, true, false, nat_lt, List, [], ◌∷◌, length, get_or, take, drop, map, slice_get, Some, refl, sym, ap, ap₂, subst, inl, inr, arith, length-take, mul-zero}
use Rattle.std.specs.List.{All, sum_by}
use Rattle.std.proofs.Math.Nat.{mul-le-mul_left}
use Rattle.std.proofs.lemmas.Bool.{cases_Bool}
use Rattle.std.proofs.lemmas.List.{length-map}
use Rattle.std.proofs.lemmas.List.Elements.{All-head, All-tail, All-map}
use Rattle.std.proofs.lemmas.List.Sorted.{length_permutation}
use Rattle.std.proofs.lemmas.List.Sums.{sum_by-cons}
use Rattle.std.proofs.lemmas.Option.{slice_get_within}
use Rattle.ats_terms.specs.Query.{IsQuery}
use Rattle.ats_impact.specs.Numbers.{idf, ratio}
use Rattle.ats_impact.specs.Score.{coefficient, frequency, score}
use Rattle.ats_lists.specs.Leaf.{leaf_bytes}
use Rattle.ats_postings.specs.Lists.{list}
use Rattle.ats_postings.specs.Postings.{postings}
use Rattle.ats_postings.specs.declared.entry.Entry.{Entry}
use Rattle.ats_postings.proofs.Public.{list_is_sorted, list_keeps, list_frequency}
use Rattle.ats_dict.specs.Entry.{dict_leaf_bytes}
use Rattle.ats_dict.specs.Dictionary.{dict_leaves}
use Rattle.ats_proof.specs.declared.record.Slot.{Slot}
use Rattle.ats_lists.specs.declared.format.Format.{Format}
use Rattle.ats_commit.specs.Archive.{Archive}
use Rattle.ats_commit.specs.Trees.{dictionary_of}
use Rattle.ats_commit.specs.Ours.{asked_term}
use Rattle.ats_commit.specs.Own.{AreTexts, IsEntryOf, AreNeighbours}
use Rattle.ats_commit.proofs.Public.{neighbours_tell, leaf_tells_posting}
use Rattle.ats_bound.specs.Cut as cut
use Rattle.ats_bound.specs.Cut.{ShownLane}
use Rattle.ats_bound.specs.Ranked.{CutLane, IsCutLane, cut_of, impact_in, whole_score}
use Rattle.ats_bound.proofs.Public.{score_listed}
use Rattle.ats_proof.specs.Value.{ShownEntry, Prefix, Proof, present_in}
use Rattle.ats_proof.specs.Runs.{named, shown_entry, shown_list}
use Rattle.ats_proof.specs.Ranges.{IsShownInRange, IsEntryInRange, IsPrefixInRange, IsInRange}
use Rattle.ats_client.specs.Presented.{Presented, presented, lane_of}
use Rattle.ats_client.specs.Slots.{entry_shown, ShowsTerm}
use Rattle.ats_client.specs.Groups.{IsListRight, AreSlotsRight, dict_terms, met_at}
use Rattle.ats_client.specs.Strings.{AreLeavesOf, IsOwnList}
use Rattle.ats_client.proofs.TermsLeft.{at_front, at_place}
use Rattle.ats_client.proofs.Slotted.{slot_shows}
use Rattle.ats_client.proofs.Descent.{IsAsked, asked-terms, entry-own, pair_is}
use Rattle.ats_client.proofs.Leaves.{leaf_own, absent_leaves}
use Rattle.ats_client.proofs.ListNotes.{names_inside}
use Rattle.ats_client.proofs.HeadlineTerms.{each_presented, sum_presented}

-- ---- the front of a list

abbrev LeafOf : List Entry → ℕ × List ℕ → Type 0
LeafOf whole s = slice_get (map leaf_bytes whole) s.0 ≡ Some s.1

-- shown leaves that are those of a term's list show its front
front_from : (texts : List (List ℕ)) → AreTexts texts → (term met : List ℕ) (at : ℕ) (entries : List Entry) → All (λ id. id < 2 ^ 32) met
    → All (λ (e : Entry). e.doc < length met) entries → All IsEntryInRange entries → AreLeavesOf (map leaf_bytes (list texts term)) (shown_list at met entries)
    → map (named met) entries ≡ take (length entries) (drop at (list texts term))
front_from texts are term met at [] small inside range leaves = refl
front_from texts are term met at (e ∷ entries) small inside range leaves =
    let whole : List Entry = list texts term in
    let leaf_shown : ℕ × List ℕ = (at, leaf_bytes (named met e)) in
    let others : List (ℕ × List ℕ) = shown_list (at + 1) met entries in
    let id_small : met_at met e.doc < 2 ^ 32 = small e.doc 0 (All-head (λ (e : Entry). e.doc < length met) e entries inside) in
    let in_range : IsEntryInRange e = All-head IsEntryInRange e entries range in
    let there : slice_get whole at ≡ Some (named met e) =
    leaf_tells_posting texts are term at (named met e) id_small in_range.small (All-head (LeafOf whole) leaf_shown others leaves) in
    let next : map (named met) entries ≡ take (length entries) (drop (at + 1) whole) = front_from texts are term met (at + 1) entries small
    (All-tail (λ (e : Entry). e.doc < length met) e entries inside) (All-tail IsEntryInRange e entries range) (All-tail (LeafOf whole) leaf_shown others leaves) in
    rw (at_front whole at (named met e) there) (ap (λ (es : List Entry). named met e ∷ es) next)

-- ---- coefficients

idf_some : (n f : ℕ) → 1 ≤ idf n f
idf_some n f = elim (cases_Bool (nat_lt (ratio n f) 1024)) [
  | inl is ↦ rw is (omega arith)
  | inr is ↦ rw is (omega arith)
]

product_some : (a b : ℕ) → 1 ≤ a → 1 ≤ b → 1 ≤ a * b
product_some a b some more =
    let least : a * 1 ≤ a * b = mul-le-mul_left {m = 1} {n = b} a more in
    omega (arith, least, some)

-- ---- what holds of a present term

-- a present term weighs something, and its prefix is in range
abbrev Weighs : Presented → Type 0
Weighs one = (1 ≤ one.weight) × IsPrefixInRange one.prefix

-- it weighs something, its entry has the length of its list, and its prefix is in range
abbrev pub HasOwnList : List (List ℕ) → List (List ℕ × ℕ) → Presented → Type 0
HasOwnList texts query one = (1 ≤ one.weight) × (one.entry.f ≡ length (list texts (asked_term query one.number))) × IsPrefixInRange one.prefix

-- ---- the slots

module _ (H : List ℕ → List ℕ) (archive : Archive) (query : List (List ℕ × ℕ)) (proof : Proof) (are : AreTexts archive.texts) (asked : IsQuery query) (range : IsInRange proof)
    (terms_own : AreLeavesOf (dict_leaves (dictionary_of H archive)) (map shown_entry proof.dict)) (right : AreSlotsRight query proof) where
  -- an absent term has no list
  pub absent_none : (i : ℕ) (pair : List ℕ × ℕ) (slot : Slot) → slice_get query i ≡ Some pair → slice_get proof.slots i ≡ Some slot
      → slot.present ≡ false → list archive.texts pair.0 ≡ []
  absent_none i pair slot at spot absent =
      let shows = subst (λ (t : List ℕ). ShowsTerm (dict_terms proof.dict) t slot) (pair_is query asked i pair at).2
      (slot_shows query proof i slot spot (right i (slice_get_within query i pair at))) in
      let around = absent_leaves entry_shown proof.dict pair.0 slot shows absent in
      let lower : ShownEntry = around.0 in
      let upper : ShownEntry = around.1 in
      let leaves : List (List ℕ) = dict_leaves (dictionary_of H archive) in
      let lower_range : IsShownInRange lower = at_place IsShownInRange proof.dict slot.index lower range.terms.each around.2.first in
      let upper_range : IsShownInRange upper = at_place IsShownInRange proof.dict (slot.index + 1) upper range.terms.each around.2.second in
      let neighbours : AreNeighbours leaves lower.position lower.entry upper.entry = record {
        first_small = lower_range.number;
        second_small = upper_range.number;
        first = leaf_own shown_entry leaves proof.dict slot.index lower terms_own around.2.first;
        second =
            subst (λ p. slice_get leaves p ≡ Some (dict_leaf_bytes upper.entry.term upper.entry.f upper.entry.root)) around.2.neighbours
            (leaf_own shown_entry leaves proof.dict (slot.index + 1) upper terms_own around.2.second);
      } in
      (neighbours_tell H archive are lower.position lower.entry upper.entry pair.0 neighbours around.2.above around.2.below).0

  -- ---- the present terms

  pub each_own : present_in proof.slots ≡ length proof.lists → All (HasOwnList archive.texts query) (presented query proof)
  each_own size =
      let terms : List Presented = presented query proof in
      let each_asked : All (IsAsked query proof.dict) terms = asked-terms query proof asked right range size in
      let each_weighs : All Weighs terms = each_presented Weighs proof.dict 0 query proof.slots proof.lists size range.fronts
      (λ j pair slot prefix at spot present in_range. ((pair_is query asked j pair at).1, in_range)) in
      λ k d inside.
      let is : IsAsked query proof.dict (get_or terms k d) = each_asked k d inside in
      let entry : IsEntryOf H archive (get_or terms k d).entry = entry-own H archive query proof.dict (get_or terms k d) are range.terms.each terms_own is in
      let weighs : Weighs (get_or terms k d) = each_weighs k d inside in
      (weighs.0, entry.number ∙ ap (λ t. length (list archive.texts t)) is.same, weighs.1)

-- ---- the lanes

-- the whole list of a present term, with its coefficient
abbrev pub own_lane : List (List ℕ) → List (List ℕ × ℕ) → Presented → CutLane
own_lane texts query one = record {
  coefficient = one.weight * idf (length texts) (frequency (asked_term query one.number) texts);
  entries = list texts (asked_term query one.number);
  shown = length one.prefix.entries;
}

abbrev pub own_lanes : List (List ℕ) → List (List ℕ × ℕ) → Proof → List CutLane
own_lanes texts query proof = map (own_lane texts query) (presented query proof)

module _ (H : List ℕ → List ℕ) (format : Format) (texts : List (List ℕ)) (query : List (List ℕ × ℕ)) (documents : ℕ) (met : List ℕ) (are : AreTexts texts)
    (number : documents ≡ length texts) (small : All (λ id. id < 2 ^ 32) met) where
  abbrev pub AllOf : List Presented → Type 0
  AllOf terms = All (HasOwnList texts query) terms × All (IsOwnList texts query met) terms × All (IsListRight H format met) terms

  pub front_is : (one : Presented) → HasOwnList texts query one → IsOwnList texts query met one → IsListRight H format met one
      → map (named met) one.prefix.entries ≡ take (length one.prefix.entries) (list texts (asked_term query one.number))
  front_is one is own right =
      let entries : List Entry = one.prefix.entries in
      let term : List ℕ = asked_term query one.number in
      front_from texts are term met 0 entries small (names_inside (length met) entries right.names) is.2.each own

  lane_is : (one : Presented) → HasOwnList texts query one → IsOwnList texts query met one → IsListRight H format met one
      → lane_of documents met one ≡ cut.lane_of (own_lane texts query one).coefficient (own_lane texts query one).entries (own_lane texts query one).shown
  lane_is one is own right =
      let term : List ℕ = asked_term query one.number in
      let f : ℕ = one.entry.f in
      let made : ℕ → ℕ → List Entry → ShownLane = λ c t es. record { coefficient = c; total = t; shown = es } in
      let often : f ≡ frequency term texts = is.1 ∙ list_frequency texts term in
      ap₂ (λ n often. made (one.weight * idf n often) f (map (named met) one.prefix.entries)) number often
      ∙ ap₂ (made (one.weight * idf (length texts) (frequency term texts))) is.1 (front_is one is own right)

  cut_is : (one : Presented) → HasOwnList texts query one → IsOwnList texts query met one → IsListRight H format met one → IsCutLane (length texts) (own_lane texts query one)
  cut_is one is own right =
      let term : List ℕ = asked_term query one.number in
      let entries : List Entry = one.prefix.entries in
      let size : length (map (named met) entries) ≡ length entries = length-map entries (named met) in
      let front = ap length (front_is one is own right) in
      let within : length entries ≤ length (list texts term) = omega (arith, size, front, length-take (length entries) (list texts term)) in
      let posted = length_permutation (postings texts term) (list texts term) (list_is_sorted texts term).same in
      let some : 1 ≤ length entries = is.2.some in
      record {
        weighs = product_some one.weight (idf (length texts) (frequency term texts)) is.0 (idf_some (length texts) (frequency term texts));
        some = some;
        within = within;
        list = list_keeps texts term (omega (arith, posted, within, some));
      }

  -- the lanes are cuts of the own lanes
  pub lanes_cut : (terms : List Presented) → AllOf terms → map (lane_of documents met) terms ≡ cut_of (map (own_lane texts query) terms)
  lanes_cut [] all = refl
  lanes_cut (one ∷ terms) all =
      let is = All-head (HasOwnList texts query) one terms all.0 in
      let own = All-head (IsOwnList texts query met) one terms all.1 in
      let right = All-head (IsListRight H format met) one terms all.2 in
      ap₂ (λ (l : ShownLane) (ls : List ShownLane). l ∷ ls) (lane_is one is own right)
      (lanes_cut terms (All-tail (HasOwnList texts query) one terms all.0, All-tail (IsOwnList texts query met) one terms all.1, All-tail (IsListRight H format met) one terms all.2))

  pub each_cut : (terms : List Presented) → AllOf terms → All (IsCutLane (length texts)) (map (own_lane texts query) terms)
  each_cut terms all =
      All-map (IsCutLane (length texts)) (own_lane texts query) terms (λ k d inside.
      cut_is (get_or terms k d) (all.0 k d inside) (all.1 k d inside) (all.2 k d inside))

-- ---- the scores

abbrev part_of : List (List ℕ) → ℕ → List ℕ × ℕ → ℕ
part_of texts doc pair = coefficient texts pair * impact_in doc (list texts pair.0)

abbrev lane_part : List (List ℕ) → List (List ℕ × ℕ) → ℕ → Presented → ℕ
lane_part texts query doc one = (own_lane texts query one).coefficient * impact_in doc (own_lane texts query one).entries

sum_own : (texts : List (List ℕ)) (query : List (List ℕ × ℕ)) (doc : ℕ) (terms : List Presented)
    → whole_score (map (own_lane texts query) terms) doc ≡ sum_by (lane_part texts query doc) terms
sum_own texts query doc [] = refl
sum_own texts query doc (one ∷ terms) =
    omega (
      arith,
      sum_by-cons (λ (lane : CutLane). lane.coefficient * impact_in doc lane.entries) (own_lane texts query one) (map (own_lane texts query) terms),
      sum_by-cons (lane_part texts query doc) one terms,
      sum_own texts query doc terms,
    )

-- a score is a sum over the present terms' lists
pub score_own : (H : List ℕ → List ℕ) (archive : Archive) (query : List (List ℕ × ℕ)) (proof : Proof) → AreTexts archive.texts → IsQuery query → IsInRange proof
    → AreLeavesOf (dict_leaves (dictionary_of H archive)) (map shown_entry proof.dict) → AreSlotsRight query proof → length proof.slots ≡ length query
    → (doc : ℕ) → doc < length archive.texts
    → score archive.texts query (get_or archive.texts doc []) ≡ whole_score (own_lanes archive.texts query proof) doc
score_own H archive query proof are asked range terms_own right size doc low =
    let adds = λ (j : ℕ) (pair : List ℕ × ℕ) (slot : Slot) (prefix : Prefix) (at : slice_get query j ≡ Some pair) (spot : slice_get proof.slots j ≡ Some slot) (present : slot.present ≡ true).
    let number : 0 + j ≡ j = omega arith in
    let term_is : asked_term query (0 + j) ≡ pair.0 = ap (asked_term query) number ∙ (pair_is query asked j pair at).2 in
    ap (λ t. (pair.1 * idf (length archive.texts) (frequency t archive.texts)) * impact_in doc (list archive.texts t)) term_is in
    let nothing = λ (j : ℕ) (pair : List ℕ × ℕ) (slot : Slot) (at : slice_get query j ≡ Some pair) (spot : slice_get proof.slots j ≡ Some slot) (absent : slot.present ≡ false).
    let none_listed : list archive.texts pair.0 ≡ [] = absent_none H archive query proof are asked range terms_own right j pair slot at spot absent in
    ap (λ es. coefficient archive.texts pair * impact_in doc es) none_listed ∙ mul-zero (coefficient archive.texts pair) in
    score_listed archive.texts query doc low
    ∙ sum_presented (part_of archive.texts doc) (lane_part archive.texts query doc) proof.dict 0 query proof.slots proof.lists size adds nothing
    ∙ sym (sum_own archive.texts query doc (presented query proof))

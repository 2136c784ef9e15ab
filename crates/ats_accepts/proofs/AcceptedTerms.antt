-- The check accepts what a proof of a cut shows of the header, the dictionary and the terms.
use Rattle.std.proofs.Common.{◌≡◌, ◌<◌, ℕ, zero, suc, true, nat_lt, List, [], ◌∷◌, length, map, get_or, Some, refl, sym, ap, ap₂, subst, ◌∙◌, arith}
use Rattle.std.specs.List.{All}
use Rattle.std.specs.List.Sorted.{IsStrictlyIncreasing}
use Rattle.std.proofs.lemmas.List.{length-map, get_or-map}
use Rattle.std.proofs.lemmas.Simd.{map-map}
use Rattle.ats_tree.specs.Shown.{Shown}
use Rattle.ats_tree.specs.Rebuild.{rebuilt}
use Rattle.ats_tree.specs.Elided.{shown_with}
use Rattle.ats_impact.specs.Score.{frequency}
use Rattle.ats_lists.specs.Formats.{list_root}
use Rattle.ats_postings.specs.Lists.{list, lists_of}
use Rattle.ats_postings.specs.declared.entry.Entry.{Entry}
use Rattle.ats_dict.specs.declared.header.Header.{Header}
use Rattle.ats_dict.specs.declared.spot.Spot.{Spot}
use Rattle.ats_dict.specs.declared.spot.Spot.TheVariants.{At, Between}
use Rattle.ats_dict.specs.Entry.{DictEntry}
use Rattle.ats_dict.specs.Dictionary.{dict_leaves, entry_at, low, term_at}
use Rattle.ats_dict.specs.Found.{IsSpot, StandsAt}
use Rattle.ats_dict.proofs.Public.{entry_at-suc, get_or-dict_leaves, length-dict_leaves}
use Rattle.ats_lists.specs.declared.format.Format.{Format}
use Rattle.ats_commit.specs.Archive.{Archive}
use Rattle.ats_commit.specs.Trees.{dict_entry, dictionary_of}
use Rattle.ats_commit.specs.Ours.{asked_term}
use Rattle.ats_commit.specs.Root.{header_root, root_of}
use Rattle.ats_proof.specs.declared.record.Slot.{Slot}
use Rattle.ats_proof.specs.Value.{ShownEntry, Proof}
use Rattle.ats_proof.specs.Runs as runs
use Rattle.ats_client.specs.Groups.{IsOpened, IsDictionary, AreSlotsRight, dict_terms, slot_at}
use Rattle.ats_client.specs.Presented as presented
use Rattle.ats_client.specs.Slots as slots
use Rattle.ats_client.specs.Slots.{ShowsTerm}
use Rattle.ats_proof.specs.declared.record.Algorithm.{Algorithm}
use Rattle.ats_honest.specs.Terms.{has, place, shown_entry, slot_of}
use Rattle.ats_honest.specs.Honest.{IsShownAt}
use Rattle.ats_honest.proofs.Public.{absent_term, spot_each, positions_below, present_term, list_at, standing_term}
use Rattle.ats_bound.proofs.Public.{has_contained}
use Rattle.ats_accepts.proofs.ShownPlaces.{made_at_place}
use Rattle.ats_accepts.proofs.PartialTrees.{leaves_shown, positions_rebuild}
use Rattle.ats_accepts.proofs.AcceptedSlots.{IsShown, LiesBy, leaf_at, slots_show}

entry_lies : (entries : List DictEntry) (term : List ℕ) (spot : Spot) → IsSpot entries term spot → LiesBy (term_at entries) term spot
entry_lies entries term (At p) is = is.same
entry_lies entries term (Between p) is = (is.above, is.below)

module _ (H : List ℕ → List ℕ) (archive : Archive) (query : List (List ℕ × ℕ)) (algorithm : Algorithm) (cut documents : List ℕ) (proof : Proof)
    (is : IsShownAt H archive query algorithm cut documents proof) where
  abbrev entries : List DictEntry
  entries = dictionary_of H archive

  -- the header is the archive's, and each term has a slot
  pub shown_opened : IsOpened H (root_of H archive) query proof
  shown_opened = record {
    commits = ap₂ (λ (format : Format) (h : Header). header_root H format h) is.format is.header;
    slots = ap (λ (all : List Slot). length all) is.slots ∙ length-map is.spots (slot_of is.positions) ∙ spot_each entries query is.spots is.found;
  }

  leaves_below : All (λ p. p < length (dict_leaves entries)) is.positions
  leaves_below k d inside = omega (arith, positions_below entries query is.spots is.positions is.found is.needed k d inside, length-dict_leaves entries)

  -- the leaves of the dictionary are those at the needed positions
  pub dictionary_shown : map runs.shown_entry proof.dict ≡ shown_with (dict_leaves entries) is.positions
  dictionary_shown =
      let size = length-dict_leaves entries in
      let made : ℕ → Shown = λ p. runs.shown_entry (shown_entry entries p) in
      ap (λ (shown : List ShownEntry). map runs.shown_entry shown) is.dict ∙ map-map runs.shown_entry (shown_entry entries) is.positions
      ∙ leaves_shown (dict_leaves entries) made is.positions
      (λ p inside. ap (λ (bytes : List ℕ). let leaf : Shown = (p, bytes) in leaf) (sym (get_or-dict_leaves entries p (omega (arith, inside, size)))))
      leaves_below

  pub shown_dictionary : IsDictionary H proof
  shown_dictionary =
      let leaves = dict_leaves entries in
      ap₂ (λ n (shown : List Shown). rebuilt H n shown proof.dict_digests) (ap (λ (h : Header). h.dict_leaves) is.header) dictionary_shown
      ∙ ap (λ (digests : List (List ℕ)). rebuilt H (length leaves) (shown_with leaves is.positions) digests) is.dict_digests
      ∙ positions_rebuild H leaves is.positions (omega (arith, length-dict_leaves entries)) is.needed.rise leaves_below
      ∙ ap (λ (h : Header). Some h.dict_root) (sym is.header)

  pub shown_slots : AreSlotsRight query proof
  shown_slots i inside =
      let term = asked_term query i in
      let made : ℕ → slots.Shown = leaf_at (term_at entries) in
      let leaves : dict_terms proof.dict ≡ map made is.positions = ap dict_terms is.dict ∙ map-map slots.entry_shown (shown_entry entries) is.positions in
      subst (λ (all : List slots.Shown). ShowsTerm all term (slot_at proof.slots i)) (sym leaves)
      (subst (λ (all : List Slot). ShowsTerm (map made is.positions) term (slot_at all i)) (sym is.slots)
      (slots_show (term_at entries) (IsSpot entries) (entry_lies entries) query is.spots is.positions is.found is.needed i inside))

-- ---- the entries of present terms

-- the entry is that of a term's list
pub record IsOwnEntry (H : List ℕ → List ℕ) (archive : Archive) (term : List ℕ) (entry : DictEntry) : Type 0 where
  pub same : entry.term ≡ term
  pub number : entry.f ≡ length (list archive.texts term)
  pub root : entry.root ≡ list_root H archive.format (list archive.texts term)

own_entry : (H : List ℕ → List ℕ) (archive : Archive) (term : List ℕ) (p : ℕ) → StandsAt (dictionary_of H archive) term p → IsOwnEntry H archive term (entry_at (dictionary_of H archive) p)
own_entry H archive term zero is = absurd (omega (arith, is.some))
own_entry H archive term (suc p) is =
    let entries = dictionary_of H archive in
    let stands = standing_term H archive term p ([], []) is in
    let own = get_or (lists_of archive.texts) p ([], []) in
    let entry : entry_at entries (suc p) ≡ dict_entry H archive.format own =
    entry_at-suc entries p low (omega (arith, stands.0, length-map (lists_of archive.texts) (dict_entry H archive.format))) ∙ get_or-map (dict_entry H archive.format) (lists_of archive.texts) p ([], []) low stands.0 in
    let all : own.1 ≡ list archive.texts term = list_at archive.texts p ([], []) stands.0 ∙ ap (list archive.texts) stands.1 in
    record {
      same = is.same;
      number = ap (λ (e : DictEntry). e.f) entry ∙ ap (λ (es : List Entry). length es) all;
      root = ap (λ (e : DictEntry). e.root) entry ∙ ap (λ (es : List Entry). list_root H archive.format es) all;
    }

-- the check finds the dictionary's entry at a shown position
pub shown_entry_at : (entries : List DictEntry) (positions : List ℕ) (p : ℕ) → IsStrictlyIncreasing positions → has p positions ≡ true
    → presented.entry_at (map (shown_entry entries) positions) (place positions p) ≡ entry_at entries p
shown_entry_at entries positions p rise stands =
    ap (λ (all : List DictEntry). get_or all (place positions p) low) (map-map (λ (shown : ShownEntry). shown.entry) (shown_entry entries) positions)
    ∙ made_at_place (entry_at entries) positions p low rise stands

-- the check reads for each term whose slot says that it is present the entry of its list
pub honest_entry : (H : List ℕ → List ℕ) (archive : Archive) (positions : List ℕ) (term : List ℕ) (spot : Spot) → IsStrictlyIncreasing positions → IsShown spot positions
    → IsSpot (dictionary_of H archive) term spot → (slot_of positions spot).present ≡ true
    → IsOwnEntry H archive term (presented.entry_at (map (shown_entry (dictionary_of H archive)) positions) (slot_of positions spot).index)
honest_entry H archive positions term (At p) rise shown is present =
    let entry = shown_entry_at (dictionary_of H archive) positions p rise (shown p (has_contained p (p ∷ []) (0, omega arith, refl))) in
    subst (λ (e : DictEntry). IsOwnEntry H archive term e) (sym entry) (own_entry H archive term p is)
honest_entry H archive positions term (Between p) rise shown is present = absurd (cc)

-- and a slot says so for the terms that some text has
pub honest_present : (H : List ℕ → List ℕ) (archive : Archive) (positions : List ℕ) (pair : List ℕ × ℕ) (spot : Spot) → IsSpot (dictionary_of H archive) pair.0 spot
    → nat_lt 0 (frequency pair.0 archive.texts) ≡ (slot_of positions spot).present
honest_present H archive positions pair (At zero) is = absurd (omega (arith, is.some))
honest_present H archive positions pair (At (suc p)) is = present_term H archive pair.0 p is
honest_present H archive positions pair (Between p) is = ap (nat_lt 0) (absent_term H archive pair.0 p is)

-- The proof of a cut, put together.
use Rattle.std.proofs.Common.{◌≡◌, ◌<◌, ◌≤◌, ℕ, nat_lt, List, length, map, take, get_or, Option, refl, sym, ap, subst, ◌∙◌, arith}
use Rattle.std.specs.List.{All}
use Rattle.std.proofs.lemmas.List.{length-map, get_or-map, length-take-le}
use Rattle.std.proofs.lemmas.List.Elements.{All-take}
use Rattle.std.proofs.lemmas.List.Sums.{count_by-le-length}
use Rattle.ats_terms.specs.Query.{IsQuery}
use Rattle.ats_tree.specs.Tree.{tree_of}
use Rattle.ats_tree.specs.Rebuild.{tree_of_places}
use Rattle.ats_tree.specs.Elided.{elided_digests, shown_with}
use Rattle.ats_tree.proofs.Public.{elided-sized}
use Rattle.ats_postings.specs.Lists.{IsList}
use Rattle.ats_postings.specs.declared.entry.Entry.{Entry}
use Rattle.ats_dict.specs.Dictionary.{IsDictionary, dict_leaves}
use Rattle.ats_dict.specs.Entry.{DictEntry}
use Rattle.ats_dict.specs.Found.{IsSpot}
use Rattle.ats_dict.specs.Header.{IsHeader}
use Rattle.ats_dict.specs.declared.spot.Spot.{Spot}
use Rattle.ats_dict.proofs.Public.{length-dict_leaves}
use Rattle.ats_lists.specs.declared.format.Format.{Format}
use Rattle.ats_lists.proofs.Public.{front-few, front-sized}
use Rattle.ats_commit.specs.Archive.{Archive}
use Rattle.ats_commit.specs.Root.{header_parts}
use Rattle.ats_commit.specs.Trees.{dictionary_of}
use Rattle.ats_bound.specs.Schedule.{WholeLane, IsCut, shown}
use Rattle.ats_grammar.specs.Table.{End}
use Rattle.ats_grammar.specs.Front.{Come}
use Rattle.ats_grammar.specs.Grammar as grammar
use Rattle.ats_proof.specs.declared.record.Algorithm.{Algorithm}
use Rattle.ats_proof.specs.Value.{Documents, Proof, AreDocumentsOf, fields_of, present_in}
use Rattle.ats_honest.specs.Inner.Order.{AreInOrder}
use Rattle.ats_honest.specs.Terms.{AreSpots, AreNeeded, shown_entry, slot_of}
use Rattle.ats_honest.specs.Documents.{HasDocuments}
use Rattle.ats_honest.specs.Lanes.{lane_of, lanes_of, present}
use Rattle.ats_honest.specs.Honest.{AreMet, IsShownAt, placed, prefix_of, prefixes}
use Rattle.ats_honest.proofs.Elided.{dictionary_few}
use Rattle.ats_honest.proofs.Needed.{positions_few}
use Rattle.ats_honest.proofs.Spots.{spot_each}
use Rattle.ats_honest.proofs.StandingTerms.{standing_each, standing_present}
use Rattle.ats_honest.proofs.Fronts.{fronts_all, prefix_each}
use Rattle.ats_honest.proofs.MetDocuments.{met_low, rising_few, lists_below}
use Rattle.ats_honest.proofs.Coming.{IsGoodPrefix, IsInRange, come_proof}
use Rattle.ats_honest.proofs.Sections.{are_documents}
use Rattle.ats_honest.proofs.Ranges.{good_entries, good_ids, good_slots, positions_below, some_needed}

-- ---- as many lists as present slots

lanes_each : (H : List ℕ → List ℕ) (archive : Archive) (query : List (List ℕ × ℕ)) (positions : List ℕ) (spots : List Spot) → AreSpots (dictionary_of H archive) query spots
    → length (lanes_of archive.texts query) ≡ present_in (map (slot_of positions) spots)
lanes_each H archive query positions spots are =
    length-map (present archive.texts query) (lane_of archive.texts) ∙ ap (λ (terms : List (List ℕ × ℕ)). length terms) (sym (standing_present H archive query spots are))
    ∙ standing_each query spots positions (spot_each (dictionary_of H archive) query spots are)

-- ---- prefixes

good_prefix : (H : List ℕ → List ℕ) → ((bytes : List ℕ) → length (H bytes) ≡ 32) → (format : Format) (met : List ℕ) (entries : List Entry) (count : ℕ) → length met ≤ 65536 → IsList 65536 entries
    → 1 ≤ count → count ≤ length entries → IsGoodPrefix (prefix_of H format met entries count)
good_prefix H sized format met entries count few is some within =
    let size = length-map (take count entries) (placed met) in
    let took = length-take-le count entries within in
    let none : Entry = record { doc = 0; impact = 0 } in record {
      some = omega (arith, size, took, some);
      few = omega (arith, size, took, within, is.few);
      each = λ k d inside.
          let here : k < length (take count entries) = omega (arith, inside, size) in
          let e = get_or (take count entries) k none in
          let at : get_or (map (placed met) (take count entries)) k d ≡ placed met e = get_or-map (placed met) (take count entries) k none d here in
          let impact = (All-take (λ (x : Entry). (1 ≤ x.impact) × (x.impact ≤ 2200)) count entries is.impacts k none here).1 in
          (omega (arith, ap (λ (x : Entry). x.doc) at, count_by-le-length (λ m. nat_lt m e.doc) met, few), omega (arith, ap (λ (x : Entry). x.impact) at, impact));
      others = record {
        few = omega (arith, front-few H format entries count some within is.few);
        each = front-sized H sized format entries count;
      };
    }

-- ---- all together

-- what a cut and the dictionary give to a proof
pub record HasParts (H : List ℕ → List ℕ) (archive : Archive) (query : List (List ℕ × ℕ)) (algorithm : Algorithm) (spots : List Spot) (positions cut documents : List ℕ) (docs : Option Documents) (picks : List ℕ) : Type 0 where
  pub sized : (bytes : List ℕ) → length (H bytes) ≡ 32
  pub dictionary : IsDictionary (dictionary_of H archive)
  pub front : IsHeader (header_parts H archive).documents (header_parts H archive).dict_leaves (header_parts H archive).dict_root (header_parts H archive).docs_root (header_parts H archive).texts_root
  pub is_query : IsQuery query
  pub found : AreSpots (dictionary_of H archive) query spots
  pub needed : AreNeeded spots positions
  pub lists : All (λ (lane : WholeLane). IsList 65536 lane.entries) (lanes_of archive.texts query)
  pub is_cut : IsCut (lanes_of archive.texts query) cut
  pub met : AreMet (shown (lanes_of archive.texts query) cut) documents
  pub has_documents : HasDocuments algorithm H archive.texts (present archive.texts query) documents docs
  pub documents_come : AreInOrder (length documents) (length (present archive.texts query)) docs
  pub rows : length picks ≤ 1000
  pub small : All (λ n. n ≤ 0xffff_ffff) picks

abbrev pub proof_of : (List ℕ → List ℕ) → Archive → List (List ℕ × ℕ) → List Spot → List ℕ → List ℕ → List ℕ → Option Documents → List ℕ → Proof
proof_of H archive query spots positions cut documents docs picks = record {
  format = archive.format;
  header = header_parts H archive;
  dict = map (shown_entry (dictionary_of H archive)) positions;
  dict_digests = elided_digests H (dict_leaves (dictionary_of H archive)) positions;
  slots = map (slot_of positions) spots;
  met = documents;
  lists = prefixes H archive.format documents (lanes_of archive.texts query) cut;
  docs = docs;
  answer = picks;
}

-- it is a proof of the cut
pub shown_of : (H : List ℕ → List ℕ) (archive : Archive) (query : List (List ℕ × ℕ)) (algorithm : Algorithm) (spots : List Spot) (positions cut documents : List ℕ) (docs : Option Documents) (picks : List ℕ)
    → AreSpots (dictionary_of H archive) query spots → AreNeeded spots positions → HasDocuments algorithm H archive.texts (present archive.texts query) documents docs
    → IsShownAt H archive query algorithm cut documents (proof_of H archive query spots positions cut documents docs picks)
shown_of H archive query algorithm spots positions cut documents docs picks found needed has = record {
  spots = spots;
  found = found;
  positions = positions;
  needed = needed;
  format = refl;
  header = refl;
  dict = refl;
  dict_digests = refl;
  slots = refl;
  met = refl;
  lists = refl;
  docs = has;
}

module _ (H : List ℕ → List ℕ) (archive : Archive) (query : List (List ℕ × ℕ)) (algorithm : Algorithm) (spots : List Spot) (positions cut documents : List ℕ) (docs : Option Documents) (picks : List ℕ)
    (parts : HasParts H archive query algorithm spots positions cut documents docs picks) where
  abbrev entries : List DictEntry
  entries = dictionary_of H archive

  abbrev lanes : List WholeLane
  lanes = lanes_of archive.texts query

  abbrev made : Proof
  made = proof_of H archive query spots positions cut documents docs picks

  pub lists_each : length (prefixes H archive.format documents lanes cut) ≡ present_in (map (slot_of positions) spots)
  lists_each = prefix_each H archive.format documents lanes cut parts.is_cut.size ∙ lanes_each H archive query positions spots parts.found

  is_in_range : IsInRange made
  is_in_range =
      let leaves = dict_leaves entries in
      let each = spot_each entries query spots parts.found in
      let few_positions : length positions ≤ 64 = omega (arith, positions_few spots positions parts.needed, each, parts.is_query.few) in
      let rises = parts.met.rise in
      let below = met_low 65536 lanes cut documents (lists_below lanes parts.lists) parts.met in
      let few : length documents ≤ 65536 = rising_few 65536 documents rises below in
      let terms : length (map (slot_of positions) spots) ≡ length query = length-map spots (slot_of positions) ∙ each in
      let shown_size = length-map positions (shown_entry entries) in
      let inside = positions_below entries query spots positions parts.found parts.needed in record {
        front = parts.front;
        terms = (omega (arith, terms, parts.is_query.some), omega (arith, terms, parts.is_query.few));
        leaves = (omega (arith, shown_size, some_needed (IsSpot entries) query spots positions parts.is_query.some parts.found parts.needed), omega (arith, shown_size, few_positions));
        entries = good_entries entries positions 0 parts.dictionary parts.needed.rise (λ k d less. omega arith) inside;
        others = record {
          few = omega (arith, dictionary_few H leaves positions (omega (arith, length-dict_leaves entries, parts.dictionary.few)) few_positions);
          each = elided-sized H parts.sized (tree_of_places (length leaves) (shown_with leaves positions)) (tree_of leaves);
        };
        places = good_slots entries positions query spots parts.dictionary few_positions parts.is_query.rises parts.found;
        ids = (few, good_ids documents 0 rises (λ k d less. omega arith) below);
        prefix_each = lists_each;
        fronts = fronts_all H archive.format documents 65536 IsGoodPrefix lanes cut parts.lists parts.is_cut
            (λ entries count. good_prefix H parts.sized archive.format documents entries count few);
        rows = (parts.rows, parts.small);
        documents = subst (λ (n : ℕ). AreInOrder (length documents) n docs) (sym (prefix_each H archive.format documents lanes cut parts.is_cut.size ∙ length-map (present archive.texts query) (lane_of archive.texts))) parts.documents_come;
      }

  -- its fields are in the grammar's order
  pub proof_comes : Come (fields_of made) grammar.proof End
  proof_comes = come_proof made is_in_range

-- ---- any proof of a cut

-- a leaf and a section for each met document, and a slot in each for each present term
pub documents_are : (H : List ℕ → List ℕ) (archive : Archive) (query : List (List ℕ × ℕ)) (algorithm : Algorithm) (cut documents : List ℕ) (proof : Proof)
    → IsShownAt H archive query algorithm cut documents proof → AreDocumentsOf proof proof.docs
documents_are H archive query algorithm cut documents proof is =
    let terms : List (List ℕ × ℕ) = present archive.texts query in
    let each : length terms ≡ present_in proof.slots = sym (length-map terms (lane_of archive.texts))
    ∙ lanes_each H archive query is.positions is.spots is.found ∙ sym (ap present_in is.slots) in
    are_documents H archive.texts terms algorithm proof proof.docs is.docs each

-- No honest TNRA proof has more than 2^26 bytes.
use Rattle.std.proofs.Common.{◌≡◌, ◌+◌, ◌*◌, ◌^◌, ◌≤◌, ◌++◌, ℕ, List, [], ◌∷◌, length, take, get_or, Option, None, refl, sym, ap, subst, ◌∙◌, arith, length-append, length-take}
use Rattle.std.specs.List.{All, concat, flat_map}
use Rattle.std.proofs.lemmas.List.{length-map, length-take-le}
use Rattle.std.proofs.lemmas.List.Elements.{All-head, All-map, All-tail}
use Rattle.std.proofs.lemmas.List.Folds.{concat-append}
use Rattle.ats_tree.specs.Elided.{shown_with}
use Rattle.ats_tree.specs.Rebuild.{tree_of_places}
use Rattle.ats_tree.specs.Tree.{tree_of}
use Rattle.ats_tree.proofs.Public.{elided-sized}
use Rattle.ats_postings.specs.Lists.{IsList}
use Rattle.ats_postings.specs.declared.entry.Entry.{Entry}
use Rattle.ats_dict.specs.Dictionary.{dict_leaves}
use Rattle.ats_dict.specs.Entry.{DictEntry}
use Rattle.ats_dict.specs.Header.{IsHeader}
use Rattle.ats_dict.specs.declared.header.Header.{Header}
use Rattle.ats_dict.proofs.Public.{length-dict_leaves}
use Rattle.ats_lists.specs.declared.format.Format.{Format}
use Rattle.ats_lists.proofs.Public.{front-few, front-sized}
use Rattle.ats_commit.specs.Archive.{Archive}
use Rattle.ats_commit.specs.Own.{AreTexts}
use Rattle.ats_commit.specs.Trees.{dictionary_of}
use Rattle.ats_commit.proofs.Public.{header_in_range, few_within}
use Rattle.ats_bound.specs.Ranked.{docs_of}
use Rattle.ats_bound.specs.Schedule.{IsCut, WholeLane}
use Rattle.ats_proof.specs.declared.record.Algorithm.TheVariants.{Tnra}
use Rattle.ats_proof.specs.declared.record.Slot.{Slot}
use Rattle.ats_proof.specs.Parts.{counted, spelled}
use Rattle.ats_proof.specs.Value.{Documents, Prefix, Proof, ShownEntry, documents_fields, front_fields, header_fields, entry_fields, digest_fields, slot_fields, id_fields, posting_fields, prefix_fields}
use Rattle.ats_honest.specs.Terms.{shown_entry, slot_of}
use Rattle.ats_honest.specs.Lanes.{lanes_of}
use Rattle.ats_honest.specs.Honest.{IsHonest, length_of, placed, prefix_of}
use Rattle.ats_honest.proofs.Coming.{AreDigests}
use Rattle.ats_honest.proofs.Elided.{dictionary_few}
use Rattle.ats_honest.proofs.Fronts.{fronts_all, prefix_each}
use Rattle.ats_honest.proofs.MetDocuments.{lists_below, met_low, rising_few}
use Rattle.ats_honest.proofs.Needed.{positions_few}
use Rattle.ats_honest.proofs.OwnEntries.{own_few, own_leaves}
use Rattle.ats_honest.proofs.Present.{HasList, lanes_few, lists_within}
use Rattle.ats_honest.proofs.Ranges.{positions_below}
use Rattle.ats_honest.proofs.ShownCut.{honest_cut, honest_met}
use Rattle.ats_honest.proofs.Spots.{IsLeaf, leaf_among, spot_each}

-- ---- how many bytes fields have

abbrev size : List (List ℕ) → ℕ
size fields = length (concat fields)

size-append : (a b : List (List ℕ)) → size (a ++ b) ≡ size a + size b
size-append a b = ap length (concat-append a b) ∙ length-append (concat a) (concat b)

header_size : (h : Header) → IsHeader h.documents h.dict_leaves h.dict_root h.docs_root h.texts_root → size (header_fields h) ≡ 105
header_size h is =
    omega (
      arith,
      is.dict,
      is.docs,
      is.texts,
      length-append h.dict_root (h.docs_root ++ (h.texts_root ++ [])),
      length-append h.docs_root (h.texts_root ++ []),
      length-append h.texts_root [],
    )

-- an entry whose bytes are few
abbrev IsSmall : ShownEntry → Type 0
IsSmall e = IsLeaf e.entry

entries_size : (es : List ShownEntry) → All IsSmall es → size (flat_map entry_fields es) ≤ 105 * length es
entries_size [] all = omega arith
entries_size (e ∷ es) all =
    let leaf = All-head IsSmall e es all in
    omega (
      arith,
      leaf.short,
      leaf.root,
      entries_size es (All-tail IsSmall e es all),
      size-append (entry_fields e) (flat_map entry_fields es),
      length-append e.entry.term (spelled 4 e.entry.f ++ (e.entry.root ++ [])),
      length-append e.entry.root [],
    )

digests_size : (ds : List (List ℕ)) → All (λ (d : List ℕ). length d ≡ 32) ds → size (flat_map digest_fields ds) ≡ 32 * length ds
digests_size [] all = refl
digests_size (d ∷ ds) all =
    omega (
      arith,
      All-head (λ (d : List ℕ). length d ≡ 32) d ds all,
      digests_size ds (All-tail (λ (d : List ℕ). length d ≡ 32) d ds all),
      length-append d (concat (flat_map digest_fields ds)),
    )

slots_size : (slots : List Slot) → size (flat_map slot_fields slots) ≡ 3 * length slots
slots_size [] = refl
slots_size (s ∷ slots) = omega (arith, slots_size slots)

ids_size : (ids : List ℕ) → size (flat_map id_fields ids) ≡ 4 * length ids
ids_size [] = refl
ids_size (id ∷ ids) = omega (arith, ids_size ids)

postings_size : (es : List Entry) → size (flat_map posting_fields es) ≡ 6 * length es
postings_size [] = refl
postings_size (e ∷ es) = omega (arith, postings_size es)

-- a prefix whose bytes are few
record IsShort (p : Prefix) : Type 0 where
  each : All (λ (d : List ℕ). length d ≡ 32) p.digests
  short : 6 * length p.entries + 32 * length p.digests ≤ 1996922

prefix_size : (p : Prefix) → IsShort p → size (prefix_fields p) ≤ 1996928
prefix_size p is =
    omega (
      arith,
      is.short,
      size-append (counted 4 posting_fields p.entries) (counted 2 digest_fields p.digests),
      postings_size p.entries,
      digests_size p.digests is.each,
    )

prefixes_size : (ps : List Prefix) → All IsShort ps → size (flat_map prefix_fields ps) ≤ 1996928 * length ps
prefixes_size [] all = omega arith
prefixes_size (p ∷ ps) all =
    omega (
      arith,
      prefix_size p (All-head IsShort p ps all),
      prefixes_size ps (All-tail IsShort p ps all),
      size-append (prefix_fields p) (flat_map prefix_fields ps),
    )

short_prefix : (H : List ℕ → List ℕ) → ((bytes : List ℕ) → length (H bytes) ≡ 32) → (format : Format) (met : List ℕ) (entries : List Entry) (count : ℕ) → IsList 65536 entries
    → 1 ≤ count → count ≤ length entries → IsShort (prefix_of H format met entries count)
short_prefix H sized format met entries count is some within =
    let shown = length-map (take count entries) (placed met) in
    let took = length-take-le count entries within in record {
      each = front-sized H sized format entries count;
      short = omega (arith, shown, took, within, is.few, front-few H format entries count some within is.few);
    }

-- ---- the whole

ten_sizes : (a b c d e f g h i j : List (List ℕ)) → size (a ++ b ++ c ++ d ++ e ++ f ++ g ++ h ++ i ++ j)
    ≡ size a + size b + size c + size d + size e + size f + size g + size h + size i + size j
ten_sizes a b c d e f g h i j =
    omega (
      arith,
      size-append (a ++ b ++ c ++ d ++ e ++ f ++ g ++ h ++ i) j,
      size-append (a ++ b ++ c ++ d ++ e ++ f ++ g ++ h) i,
      size-append (a ++ b ++ c ++ d ++ e ++ f ++ g) h,
      size-append (a ++ b ++ c ++ d ++ e ++ f) g,
      size-append (a ++ b ++ c ++ d ++ e) f,
      size-append (a ++ b ++ c ++ d) e,
      size-append (a ++ b ++ c) d,
      size-append (a ++ b) c,
      size-append a b,
    )

add_up : (a b c d e f g h i j all : ℕ) → all ≡ a + b + c + d + e + f + g + h + i + j → a ≡ 6 → b ≡ 105 → c ≡ 2 → d ≤ 6722 → e ≤ 2097122 → f ≤ 96
    → g ≤ 262148 → h ≤ 63901696 → i ≡ 0 → j ≤ 4002 → all ≤ 2 ^ 26
add_up a b c d e f g h i j all sum one two three four five six seven eight nine ten = omega (arith, sum, one, two, three, four, five, six, seven, eight, nine, ten)

-- why a TNRA proof is short
record HasFew (proof : Proof) : Type 0 where
  front : IsHeader proof.header.documents proof.header.dict_leaves proof.header.dict_root proof.header.docs_root proof.header.texts_root
  entries : All IsSmall proof.dict
  leaves : length proof.dict ≤ 64
  others : AreDigests proof.dict_digests
  terms : length proof.slots ≤ 32
  met : length proof.met ≤ 65536
  lists : All IsShort proof.lists
  fronts : length proof.lists ≤ 32
  alone : proof.docs ≡ None
  rows : length proof.answer ≤ 1000

few_short : (proof : Proof) → HasFew proof → length_of proof ≤ 2 ^ 26
few_short proof is =
    let a = front_fields proof.format proof.docs in
    let b = header_fields proof.header in
    let c : List (List ℕ) = spelled 2 (length proof.slots) ∷ [] in
    let d = counted 2 entry_fields proof.dict in
    let e = counted 2 digest_fields proof.dict_digests in
    let f = flat_map slot_fields proof.slots in
    let g = counted 4 id_fields proof.met in
    let h = flat_map prefix_fields proof.lists in
    let i = documents_fields proof.docs in
    let j = counted 2 id_fields proof.answer in
    let one : size a ≡ 6 = ap (λ (docs : Option Documents). size (front_fields proof.format docs)) is.alone in
    let four : size d ≤ 6722 = omega (arith, entries_size proof.dict is.entries, is.leaves) in
    let five : size e ≤ 2097122 = omega (arith, digests_size proof.dict_digests is.others.each, is.others.few) in
    let six : size f ≤ 96 = omega (arith, slots_size proof.slots, is.terms) in
    let seven : size g ≤ 262148 = omega (arith, ids_size proof.met, is.met) in
    let eight : size h ≤ 63901696 = omega (arith, prefixes_size proof.lists is.lists, is.fronts) in
    let nine : size i ≡ 0 = ap (λ (docs : Option Documents). size (documents_fields docs)) is.alone in
    let ten : size j ≤ 4002 = omega (arith, ids_size proof.answer, is.rows) in
    add_up (size a) (size b) (size c) (size d) (size e) (size f) (size g) (size h) (size i) (size j) (length_of proof) (ten_sizes a b c d e f g h i j)
    one (header_size proof.header is.front) (omega arith) four five six seven eight nine ten

-- ---- an honest proof

module _ (H : List ℕ → List ℕ) (sized : (bytes : List ℕ) → length (H bytes) ≡ 32) (archive : Archive) (query : List (List ℕ × ℕ)) (r : ℕ) (proof : Proof)
    (are : AreTexts archive.texts) (few : length query ≤ 32) (rows : r ≤ 1000) (honest : IsHonest H archive query r Tnra proof) where
  abbrev entries : List DictEntry
  entries = dictionary_of H archive

  abbrev lanes : List WholeLane
  lanes = lanes_of archive.texts query

  terms : length honest.shows.spots ≡ length query
  terms = spot_each entries query honest.shows.spots honest.shows.found

  positions : length honest.shows.positions ≤ 64
  positions = omega (arith, positions_few honest.shows.spots honest.shows.positions honest.shows.needed, terms, few)

  small : All IsSmall proof.dict
  small = subst (All IsSmall) (sym honest.shows.dict) (All-map IsSmall (shown_entry entries) honest.shows.positions (λ k d inside.
      leaf_among entries (get_or honest.shows.positions k d) (own_leaves H sized archive are.within.few)
      (positions_below entries query honest.shows.spots honest.shows.positions honest.shows.found honest.shows.needed k d inside)))

  others : AreDigests proof.dict_digests
  others = subst AreDigests (sym honest.shows.dict_digests) (
      let leaves : List (List ℕ) = dict_leaves entries in
      record {
        few = omega (arith, dictionary_few H leaves honest.shows.positions (omega (arith, length-dict_leaves entries, own_few H archive are)) positions);
        each = elided-sized H sized (tree_of_places (length leaves) (shown_with leaves honest.shows.positions)) (tree_of leaves);
      })

  lists : All (HasList 65536) lanes
  lists = lists_within archive.texts query are.within.few

  is_cut : IsCut lanes honest.cut
  is_cut = honest_cut _ _ H archive query Tnra proof honest

  met : length proof.met ≤ 65536
  met =
      let docs : List ℕ = docs_of honest.brackets in
      let are_met = honest_met _ _ H archive query Tnra proof honest in
      let few = rising_few 65536 docs are_met.rise (met_low 65536 lanes honest.cut docs (lists_below lanes lists) are_met) in
      omega (arith, few, ap (λ (ids : List ℕ). length ids) honest.shows.met)

  has_few : HasFew proof
  has_few = record {
    front = subst (λ (h : Header). IsHeader h.documents h.dict_leaves h.dict_root h.docs_root h.texts_root) (sym honest.shows.header)
        (header_in_range H sized archive are.within (few_within archive.texts are.utf8 are.within));
    entries = small;
    leaves = omega (arith, ap (λ (es : List ShownEntry). length es) honest.shows.dict, length-map honest.shows.positions (shown_entry entries), positions);
    others = others;
    terms = omega (arith, ap (λ (slots : List Slot). length slots) honest.shows.slots, length-map honest.shows.spots (slot_of honest.shows.positions), terms, few);
    met = met;
    lists = subst (All IsShort) (sym honest.shows.lists) (fronts_all H archive.format proof.met 65536 IsShort lanes honest.cut lists is_cut (short_prefix H sized archive.format proof.met));
    fronts = omega (arith, ap (λ (ps : List Prefix). length ps) honest.shows.lists, prefix_each H archive.format proof.met lanes honest.cut is_cut.size, lanes_few archive.texts query, few);
    alone = honest.shows.docs;
    rows = omega (arith, ap (λ (picks : List ℕ). length picks) honest.answer.first, length-take r honest.answer.all, rows);
  }

  -- it has at most 2^26 bytes
  pub honest_short : length_of proof ≤ 2 ^ 26
  honest_short = few_short proof has_few

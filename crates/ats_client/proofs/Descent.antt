-- The descent: from the root to the header, the dictionary, the lists and the met documents, what a proof shows is the
-- archive's own, unless there is a collision.
use Rattle.std.proofs.Common.{◌≡◌, ◌+◌, ◌<◌, ◌≤◌, ◌^◌, ℕ, List, [], ◌∷◌, ◌++◌, length, map, get_or, slice_get, Option, Some, refl, sym, ◌∙◌, ap, subst, arith}
use Rattle.std.specs.List.{All, flat_map}
use Rattle.std.specs.List.Sorted.{IsStrictlyIncreasing}
use Rattle.std.specs.Option.{ForSome}
use Rattle.std.proofs.lemmas.Option.{get_or_from_slice_get, slice_get_within}
use Rattle.std.proofs.lemmas.Simd.{map-map}
use Rattle.ats_terms.specs.Terms.{IsTerm}
use Rattle.ats_terms.specs.Query.{IsQuery}
use Rattle.ats_tree.specs.Differences.{Hashed, first_difference}
use Rattle.ats_tree.specs.Nodes.{NodeNumbers}
use Rattle.ats_tree.specs.Shown.{Shown}
use Rattle.ats_tree.specs.Strings.{node_string, node_strings}
use Rattle.ats_tree.specs.Part.{RisesFrom}
use Rattle.ats_tree.specs.declared.places.Place.{Place}
use Rattle.ats_tree.specs.declared.places.Tree.TheVariants.{Dictionary, List as ListOf}
use Rattle.ats_tree.proofs.Public.{bound_to, difference-collides, numbers-lead, rises-increasing, Binds, binds-both, binds-weaker, binds-one, binds-all, binds-moved}
use Rattle.ats_lists.specs.Formats.{list_root, list_string, prefix_root, prefix_strings}
use Rattle.ats_postings.specs.Lists.{list}
use Rattle.ats_postings.specs.declared.entry.Entry.{Entry}
use Rattle.ats_lists.proofs.Public.{list-bound}
use Rattle.ats_dict.specs.Dictionary.{dict_leaves}
use Rattle.ats_dict.specs.Entry.{DictEntry, dict_leaf_bytes}
use Rattle.ats_dict.specs.Header.{header_bytes, IsHeader}
use Rattle.ats_dict.specs.declared.header.Header.{Header}
use Rattle.ats_lists.specs.declared.format.Format.{Format}
use Rattle.ats_commit.specs.Archive.{Archive, header_tag}
use Rattle.ats_commit.specs.Trees.{dictionary_of}
use Rattle.ats_commit.specs.Root.{header_of, header_root, root_of}
use Rattle.ats_commit.specs.Own.{AreTexts, IsHeaderOf, IsEntryOf}
use Rattle.ats_commit.specs.Ours.{asked_term, ours}
use Rattle.ats_commit.specs.Places.{in_tree}
use Rattle.ats_commit.proofs.Public.{same_format, own_header, leaf_tells_entry, rest_same, tag_same}
use Rattle.ats_proof.specs.Value.{ShownEntry, Proof, present_in}
use Rattle.ats_proof.specs.Ranges.{AreDigests, IsShownInRange, IsInRange}
use Rattle.ats_proof.specs.Runs.{shown_entry, shown_list}
use Rattle.ats_client.specs.Groups as groups
use Rattle.ats_client.specs.Presented.{Presented, presented, entry_at}
use Rattle.ats_client.specs.Slots as slots
use Rattle.ats_client.specs.Strings.{hashed_header, strings_in, list_strings, documents_strings, strings_of, proof_collision, AreLeavesOf, IsOwnList, AreOwnDocuments, IsOwn, IsBound}
use Rattle.ats_client.specs.Rooted.{AreRooted}
use Rattle.ats_client.proofs.Counts.{list-front}
use Rattle.ats_client.proofs.DescentDocuments.{all-documents-bind}
use Rattle.ats_client.proofs.DescentTrees.{tree-binds}
use Rattle.ats_client.proofs.HeadlineTerms.{HoldsPresent, each_presented}
use Rattle.ats_client.proofs.Leaves.{leaf_own, present_leaf}
use Rattle.ats_client.proofs.TermsLeft.{at_place, entry_there}
use Rattle.ats_client.proofs.Slotted.{slot_shows}

-- ---- elements of lists

-- a pair of a query is a term with a weight
pub pair_is : (query : List (List ℕ × ℕ)) → IsQuery query → (i : ℕ) (pair : List ℕ × ℕ) → slice_get query i ≡ Some pair
    → IsTerm pair.0 × (1 ≤ pair.1) × (asked_term query i ≡ pair.0)
pair_is query asked i pair at = (
  at_place (λ (p : List ℕ × ℕ). IsTerm p.0) query i pair asked.terms at,
  at_place (λ (p : List ℕ × ℕ). 1 ≤ p.1) query i pair asked.weighed at,
  ap (λ (p : List ℕ × ℕ). p.0) (get_or_from_slice_get query i pair ([], 0) at),
)

-- ---- the header

-- The header says the archive's format and numbers.
pub header-binds : (H : List ℕ → List ℕ) → ((m : List ℕ) → length (H m) ≡ 32) → (archive : Archive) (query : List (List ℕ × ℕ)) (format : Format) (header : Header)
    → AreTexts archive.texts → IsHeader header.documents header.dict_leaves header.dict_root header.docs_root header.texts_root
    → header_root H format header ≡ root_of H archive
    → Binds H (ours H archive query) (hashed_header format header ∷ []) ((format ≡ archive.format) × IsHeaderOf H archive header)
header-binds H sized archive query format header are is root =
    let bytes : List ℕ = header_bytes header.documents header.dict_leaves header.dict_root header.docs_root header.texts_root
    in let tag : ℕ = header_tag archive.format
    in binds-one H (ours H archive query) (hashed_header format header) (tag ∷ header_of H archive) ((format ≡ archive.format) × IsHeaderOf H archive header) refl root
    (λ same. (
      same_format format archive.format (tag_same tag (header_tag format) (header_of H archive) bytes same),
      own_header H sized archive header are is (rest_same tag (header_tag format) (header_of H archive) bytes same),
    ))

-- ---- the dictionary

pub dictionary-binds : (H : List ℕ → List ℕ) → ((m : List ℕ) → length (H m) ≡ 32) → (archive : Archive) (query : List (List ℕ × ℕ)) (proof : Proof)
    → IsInRange proof → groups.IsDictionary H proof → IsHeaderOf H archive proof.header
    → Binds H (ours H archive query) (strings_in H Dictionary proof.header.dict_leaves (map shown_entry proof.dict) proof.dict_digests)
    (AreLeavesOf (dict_leaves (dictionary_of H archive)) (map shown_entry proof.dict))
dictionary-binds H sized archive query proof range right header =
    let shown : List Shown = map shown_entry proof.dict
    in let leaves : List (List ℕ) = dict_leaves (dictionary_of H archive)
    in let rises : RisesFrom 0 shown = rises-increasing shown (subst IsStrictlyIncreasing (sym (map-map (λ (s : Shown). s.0) shown_entry proof.dict)) range.terms.rises)
    in tree-binds H Dictionary (ours H archive query) (node_string H leaves) (node_strings H proof.header.dict_leaves shown proof.dict_digests)
    (AreLeavesOf leaves shown) (λ node. ap (node_string H leaves) (numbers-lead node))
    (bound_to H sized proof.header.dict_leaves shown proof.dict_digests proof.header.dict_root rises range.terms.sized right leaves
    (sym header.leaves) (sym header.dictionary))

-- ---- one list

-- a present term is the query's with its number, and its entry is that of a shown leaf
pub record IsAsked (query : List (List ℕ × ℕ)) (dict : List ShownEntry) (one : Presented) : Type 0 where
  pub place : ℕ
  pub shown : ShownEntry
  pub there : slice_get dict place ≡ Some shown
  pub entry : shown.entry ≡ one.entry
  pub same : one.entry.term ≡ asked_term query one.number
  pub term : IsTerm one.entry.term
  pub sized : AreDigests one.prefix.digests

-- the entry of a present term says what the archive's list of the term has
pub entry-own : (H : List ℕ → List ℕ) (archive : Archive) (query : List (List ℕ × ℕ)) (dict : List ShownEntry) (one : Presented) → AreTexts archive.texts
    → All IsShownInRange dict → AreLeavesOf (dict_leaves (dictionary_of H archive)) (map shown_entry dict) → IsAsked query dict one
    → IsEntryOf H archive one.entry
entry-own H archive query dict one are ranges own asked =
    let leaves : List (List ℕ) = dict_leaves (dictionary_of H archive)
    in let range : IsShownInRange asked.shown = at_place IsShownInRange dict asked.place asked.shown ranges asked.there
    in let small : one.entry.f < 2 ^ 32 = subst (λ (e : DictEntry). e.f < 2 ^ 32) asked.entry range.number
    in let leaf = leaf_own shown_entry leaves dict asked.place asked.shown own asked.there
    in leaf_tells_entry H archive are asked.shown.position one.entry asked.term small
    (subst (λ (e : DictEntry). slice_get leaves asked.shown.position ≡ Some (dict_leaf_bytes e.term e.f e.root)) asked.entry leaf)

pub list-binds : (H : List ℕ → List ℕ) → ((m : List ℕ) → length (H m) ≡ 32) → (archive : Archive) (query : List (List ℕ × ℕ)) (format : Format) (met : List ℕ) (one : Presented)
    → format ≡ archive.format → one.entry.term ≡ asked_term query one.number → AreDigests one.prefix.digests → groups.IsListRooted H format met one → IsEntryOf H archive one.entry
    → Binds H (ours H archive query) (list_strings H format met one) (IsOwnList archive.texts query met one)
list-binds H sized archive query format met one formats same digests rooted own =
    let entries : List Entry = list archive.texts (asked_term query one.number)
    in let shown : List Shown = shown_list 0 met one.prefix.entries
    in let Strings : ℕ → List (Hashed NodeNumbers) = λ total. prefix_strings H format total shown one.prefix.digests
    in let Shows : Type 0 = IsOwnList archive.texts query met one
    in let size : length entries ≡ one.entry.f = subst (λ term. length (list archive.texts term) ≡ one.entry.f) same (sym own.number)
    in let root : one.entry.root ≡ list_root H format entries =
    own.root ∙ ap (λ term. list_root H archive.format (list archive.texts term)) same ∙ ap (λ f. list_root H f entries) (sym formats)
    in let right : prefix_root H format (length entries) shown one.prefix.digests ≡ Some (list_root H format entries) =
    ap (λ total. prefix_root H format total shown one.prefix.digests) size ∙ rooted ∙ ap Some root
    in let bound : Binds H (list_string H format entries) (Strings one.entry.f) Shows =
    subst (λ total. Binds H (list_string H format entries) (Strings total) Shows) size
    (list-bound H sized format shown one.prefix.digests entries (list-front 0 met one.prefix.entries) digests right)
    in binds-moved H (in_tree (ListOf one.number)) (ours H archive query) (Strings one.entry.f) Shows
    (subst (λ f. Binds H (list_string H f entries) (Strings one.entry.f) Shows) formats bound)

-- ---- all lists

-- a present pair, its slot and its prefix make a present term that is in the query
pair-asked : (query : List (List ℕ × ℕ)) (proof : Proof) → IsQuery query → groups.AreSlotsRight query proof
    → HoldsPresent (IsAsked query proof.dict) proof.dict 0 query proof.slots
pair-asked query proof is right j pair slot prefix at spot present range =
    let low : j < length query = slice_get_within query j pair at
    in let number : 0 + j ≡ j = omega arith
    in let pair_term = pair_is query is j pair at
    in let shows = slot_shows query proof j slot spot (right j low)
    in let was = present_leaf slots.entry_shown proof.dict (asked_term query j) slot shows present
    in let shown : ShownEntry = was.0
    in let entry : shown.entry ≡ entry_at proof.dict slot.index = entry_there proof.dict slot.index shown (sym was.1)
    in let same : (entry_at proof.dict slot.index).term ≡ asked_term query j =
    ap (λ (e : DictEntry). e.term) (sym entry) ∙ was.2
    in record {
      place = slot.index;
      shown = shown;
      there = was.1;
      entry = entry;
      same = same ∙ ap (asked_term query) (sym number);
      term = subst IsTerm (sym (same ∙ pair_term.2)) pair_term.0;
      sized = range.sized;
    }

pub asked-terms : (query : List (List ℕ × ℕ)) (proof : Proof) → IsQuery query → groups.AreSlotsRight query proof → IsInRange proof
    → present_in proof.slots ≡ length proof.lists → All (IsAsked query proof.dict) (presented query proof)
asked-terms query proof is right range size =
    each_presented (IsAsked query proof.dict) proof.dict 0 query proof.slots proof.lists size range.fronts (pair-asked query proof is right)

pub lists-bind : (H : List ℕ → List ℕ) → ((m : List ℕ) → length (H m) ≡ 32) → (archive : Archive) (query : List (List ℕ × ℕ)) (proof : Proof) → AreTexts archive.texts
    → IsInRange proof → proof.format ≡ archive.format → All (IsAsked query proof.dict) (presented query proof) → All (groups.IsListRooted H proof.format proof.met) (presented query proof)
    → AreLeavesOf (dict_leaves (dictionary_of H archive)) (map shown_entry proof.dict)
    → Binds H (ours H archive query) (flat_map (list_strings H proof.format proof.met) (presented query proof))
    (All (IsOwnList archive.texts query proof.met) (presented query proof))
lists-bind H sized archive query proof are range formats asked rooted own =
    binds-all H (ours H archive query) (list_strings H proof.format proof.met) (IsOwnList archive.texts query proof.met) (presented query proof)
    (λ k d low.
    let one : Presented = get_or (presented query proof) k d
    in let is : IsAsked query proof.dict one = asked k d low
    in list-binds H sized archive query proof.format proof.met one formats is.same is.sized (rooted k d low)
    (entry-own H archive query proof.dict one are range.terms.each own is))

-- ---- the whole proof

-- if each section rebuilds to the root that the proof has for it
pub whole-binds : (H : List ℕ → List ℕ) → ((m : List ℕ) → length (H m) ≡ 32) → (archive : Archive) (query : List (List ℕ × ℕ)) (proof : Proof) → AreTexts archive.texts
    → IsQuery query → IsInRange proof → present_in proof.slots ≡ length proof.lists → AreRooted H (root_of H archive) query proof → IsBound H archive query proof
whole-binds H sized archive query proof are is range size rooted =
    let own : Place → Option (List ℕ) = ours H archive query
    in let format : Format = proof.format
    in let top : List (Hashed Place) = hashed_header format proof.header ∷ []
    in let terms : List (Hashed Place) = strings_in H Dictionary proof.header.dict_leaves (map shown_entry proof.dict) proof.dict_digests
    in let fronts : List (Hashed Place) = flat_map (list_strings H format proof.met) (presented query proof)
    in let documents : List (Hashed Place) = documents_strings H proof.header proof.met proof.docs
    in let Numbers : Type 0 = (format ≡ archive.format) × IsHeaderOf H archive proof.header
    in let Terms : Type 0 = AreLeavesOf (dict_leaves (dictionary_of H archive)) (map shown_entry proof.dict)
    in let Fronts : Type 0 = All (IsOwnList archive.texts query proof.met) (presented query proof)
    in let Documents : Type 0 = ForSome proof.docs (AreOwnDocuments H archive.texts proof.met)
    in let asked = asked-terms query proof is rooted.slots range size
    in binds-weaker H own (strings_of H query proof) (Numbers × (Terms × (Fronts × Documents))) (IsOwn H archive query proof)
    (λ all. record { format = all.0.0; numbers = all.0.1; terms = all.1.0; fronts = all.1.1.0; documents = all.1.1.1 })
    (binds-both H own top (terms ++ (fronts ++ documents)) Numbers (Terms × (Fronts × Documents))
    (header-binds H sized archive query format proof.header are range.front rooted.header)
    (λ numbers. binds-both H own terms (fronts ++ documents) Terms (Fronts × Documents)
    (dictionary-binds H sized archive query proof range rooted.dictionary numbers.1)
    (λ own_terms. binds-both H own fronts documents Fronts Documents
    (lists-bind H sized archive query proof are range numbers.0 asked rooted.lists own_terms)
    (λ own_lists. all-documents-bind H sized archive query proof.header proof.met proof.docs are range.ids.rise range.shown rooted.documents rooted.terms numbers.1))))

-- the first difference is then the first collision
pub collision-is-difference : (H : List ℕ → List ℕ) (archive : Archive) (query : List (List ℕ × ℕ)) (proof : Proof) → IsBound H archive query proof
    → proof_collision H archive query proof ≡ first_difference (ours H archive query) (strings_of H query proof)
collision-is-difference H archive query proof bound =
    difference-collides H (IsOwn H archive query proof) (ours H archive query) (strings_of H query proof) bound

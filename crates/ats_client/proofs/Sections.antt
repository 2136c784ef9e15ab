-- The first collision of a proof's strings from those of its sections, and what holds for the sections of a proof that
-- rebuilds.
use Rattle.std.proofs.Common.{◌≡◌, ◌≢◌, ◌<◌, ◌≤◌, ◌+◌, ◌^◌, ◌∙◌, ℕ, zero, suc, List, [], ◌∷◌, ◌++◌, length, map, drop, true, false, Option, Some, None, refl, sym, ap, ap₂, subst, arith, IfSome}
use Rattle.std.specs.List.{All, flat_map}
use Rattle.std.specs.Option.{option_map, option_or, IsSome}
use Rattle.std.specs.Int.{to_be_bytes, w16, w32}
use Rattle.std.proofs.lemmas.List.{length-append}
use Rattle.std.proofs.lemmas.Simd.{map-map}
use Rattle.std.proofs.lemmas.List.Elements.{All-nil, All-cons, All-head, All-tail}
use Rattle.ats_tree.specs.Differences.{Hashed, moved, Difference, IsOurs, collision_or, first_collision}
use Rattle.ats_tree.specs.Nodes.{Node, NodeNumbers, by_path, numbers_of}
use Rattle.ats_tree.specs.Paths.{Path, path_of}
use Rattle.ats_tree.specs.Rebuild.{rebuilt}
use Rattle.ats_tree.specs.Shown as tree
use Rattle.ats_tree.specs.Strings.{string_at, node_string}
use Rattle.ats_tree.specs.Tree as trees
use Rattle.ats_tree.specs.Clashes as nodes
use Rattle.ats_tree.specs.declared.clashing.Clash as found
use Rattle.ats_tree.specs.declared.places.Place.{Place}
use Rattle.ats_tree.specs.declared.places.Tree.{Tree}
use Rattle.ats_tree.specs.declared.places.Tree.TheVariants.{Header, Dictionary, List as ListOf, Documents as DocumentsTree, Terms}
use Rattle.ats_tree.proofs.Public.{collision-append, collision-moved, moved_collision, collides-is, collides-not, numbers-back, own-none}
use Rattle.ats_postings.specs.declared.entry.Entry.{Entry}
use Rattle.ats_lists.specs.ChainClash.{list_difference_of}
use Rattle.ats_lists.specs.Formats.{list_string, prefix_root, prefix_strings}
use Rattle.ats_lists.specs.Leaf.{leaf_bytes}
use Rattle.ats_postings.specs.Lists.{list}
use Rattle.ats_lists.proofs.Public.{list-tagged}
use Rattle.ats_dict.specs.Entry.{dict_leaf_bytes}
use Rattle.ats_dict.specs.declared.header.Header.{Header as Numbers}
use Rattle.ats_doctree.specs.declared.doc_leaf.DocLeaf.{DocLeaf}
use Rattle.ats_doctree.specs.DocumentLeaf.{doc_leaf_bytes}
use Rattle.ats_doctree.specs.Sentinels as terms
use Rattle.ats_lists.specs.declared.format.Format.{Format}
use Rattle.ats_lists.specs.declared.format.Format.TheVariants.{One, Two}
use Rattle.ats_commit.specs.Archive.{Archive}
use Rattle.ats_commit.specs.Ours.{asked_term, own_leaves, own_header, own_string, ours}
use Rattle.ats_commit.specs.OwnShown.{tree_strings}
use Rattle.ats_commit.specs.Places.{in_tree, numbers_at}
use Rattle.ats_proof.specs.Value.{ShownEntry, ShownTerm, Documents, Proof}
use Rattle.ats_proof.specs.Ranges.{IsShownInRange, IsTermInRange, IsDocLeafInRange}
use Rattle.ats_proof.specs.Runs.{shown_entry, shown_term, shown_docs, shown_list, named}
use Rattle.ats_client.specs.Documents.{documents_from, AreDocsRooted}
use Rattle.ats_client.specs.Presented.{presented}
use Rattle.ats_client.specs.Inner.Sections.{difference_in}
use Rattle.ats_client.specs.Strings.{hashed_header, strings_in, list_strings, terms_strings, documents_strings, proof_collision}

-- ---- strings of an archive's own have a tag

abbrev pub IsTagged : Option (List ℕ) → Type 0
IsTagged o = IfSome o (λ own. 0 < length own)

string-tagged : (H : List ℕ → List ℕ) (t : trees.Tree (List ℕ)) (path : Path) → IsTagged (string_at H t path)
string-tagged H trees.empty path = tt
string-tagged H (trees.leaf d) [] = omega arith
string-tagged H (trees.leaf d) (turn ∷ path) = tt
string-tagged H (trees.node l r) [] = omega arith
string-tagged H (trees.node l r) (false ∷ path) = string-tagged H l path
string-tagged H (trees.node l r) (true ∷ path) = string-tagged H r path

node-tagged : (H : List ℕ → List ℕ) (leaves : List (List ℕ)) (node : Node) → IsTagged (node_string H leaves node)
node-tagged H leaves (by_path path) = string-tagged H (trees.tree_of leaves) path

-- a tag is a byte
tag-there : (o : Option (List ℕ)) → IfSome o (λ text. (tag : ℕ) × (rest : List ℕ) × (tag ≤ 3) × (text ≡ tag ∷ rest)) → IsTagged o
tag-there None is = tt
tag-there (Some text) is = subst (λ (t : List ℕ). 0 < length t) (sym is.3) (omega arith)

header-tagged : (H : List ℕ → List ℕ) (archive : Archive) (depth : ℕ) → IsTagged (own_header H archive depth)
header-tagged H archive zero = omega arith
header-tagged H archive (suc depth) = tt

own-tagged : (H : List ℕ → List ℕ) (archive : Archive) (query : List (List ℕ × ℕ)) (tree : Tree) (at : NodeNumbers) → IsTagged (own_string H archive query tree at)
own-tagged H archive query Header at = header-tagged H archive at.depth
own-tagged H archive query Dictionary at = node-tagged H (own_leaves H archive query Dictionary) (by_path (path_of at.depth at.turns))
own-tagged H archive query (ListOf term) at =
    let entries : List Entry = list archive.texts (asked_term query term)
    in tag-there (list_string H archive.format entries at) (list-tagged H archive.format entries at)
own-tagged H archive query DocumentsTree at = node-tagged H (own_leaves H archive query DocumentsTree) (by_path (path_of at.depth at.turns))
own-tagged H archive query (Terms doc) at = node-tagged H (own_leaves H archive query (Terms doc)) (by_path (path_of at.depth at.turns))

pub ours-tagged : (H : List ℕ → List ℕ) (archive : Archive) (query : List (List ℕ × ℕ)) (place : Place) → IsTagged (ours H archive query place)
ours-tagged H archive query place = own-tagged H archive query place.tree (numbers_at place)

-- ---- one tree

pub rebuilds_by : (H : List ℕ → List ℕ) (format format' : Format) (n n' : ℕ) (shown shown' : List tree.Shown) (ds ds' : List (List ℕ)) (root : List ℕ)
    → format ≡ format' → n ≡ n' → shown ≡ shown' → ds ≡ ds' → prefix_root H format' n' shown' ds' ≡ Some root → IsSome (prefix_root H format n shown ds)
rebuilds_by H format format' n n' shown shown' ds ds' root is_format is_n is_shown is_ds is = rw (is_format, is_n, is_shown, is_ds, is) refl

-- the collision that is found in one tree, as one of the whole proof
abbrev pub placed_in : Tree → Difference Node → Difference Place
placed_in tree c = record { place = in_tree tree (numbers_of c.place); ours = c.ours; theirs = c.theirs }

in_one_tree : (H : List ℕ → List ℕ) (own : Place → Option (List ℕ)) (tree : Tree) (ss : List (Hashed Node)) (found : Option (Difference Node))
    → found ≡ first_collision H (λ node. own (in_tree tree (numbers_of node))) ss
    → option_map (placed_in tree) found ≡ first_collision H own (map (moved (in_tree tree)) (map (moved numbers_of) ss))
in_one_tree H own tree ss found is =
    ap (option_map (placed_in tree)) is
    ∙ sym (collision-moved H (λ node. in_tree tree (numbers_of node)) own ss)
    ∙ sym (ap (first_collision H own) (map-map (moved (in_tree tree)) (moved numbers_of) ss))

-- the collision that is found by numbers, as one of the whole proof
in_one_list : (H : List ℕ → List ℕ) (own : Place → Option (List ℕ)) (tree : Tree) (ss : List (Hashed NodeNumbers)) (found : Option (Difference NodeNumbers))
    → found ≡ first_collision H (λ at. own (in_tree tree at)) ss
    → option_map (moved_collision (in_tree tree)) found ≡ first_collision H own (map (moved (in_tree tree)) ss)
in_one_list H own tree ss found is = ap (option_map (moved_collision (in_tree tree))) is ∙ sym (collision-moved H (in_tree tree) own ss)

-- the clash of a tree, and that of a list in blocks, as one of the whole proof
pub clash_in_tree : (H : List ℕ → List ℕ) (own : Place → Option (List ℕ)) (tree : Tree) (ss : List (Hashed Node)) (clash : Option (found.Clash (List ℕ)))
    → IfSome clash (λ c. c.turns < 2 ^ c.depth)
    → option_map (nodes.difference_of (λ s. s)) clash ≡ first_collision H (λ node. own (in_tree tree (numbers_of node))) ss
    → option_map (difference_in tree) clash ≡ first_collision H own (map (moved (in_tree tree)) (map (moved numbers_of) ss))
clash_in_tree H own tree ss None inside is = in_one_tree H own tree ss None is
clash_in_tree H own tree ss (Some clash) inside is =
    ap (λ (at : NodeNumbers). Some (let c : Difference Place = record { place = in_tree tree at; ours = clash.ours; theirs = clash.theirs } in c))
    (sym (numbers-back clash.depth clash.turns inside))
    ∙ in_one_tree H own tree ss (Some (nodes.difference_of (λ s. s) clash)) is

pub clash_in_blocks : (H : List ℕ → List ℕ) (own : Place → Option (List ℕ)) (tree : Tree) (ss : List (Hashed NodeNumbers)) (clash : Option (found.Clash (List ℕ)))
    → option_map list_difference_of clash ≡ first_collision H (λ at. own (in_tree tree at)) ss
    → option_map (difference_in tree) clash ≡ first_collision H own (map (moved (in_tree tree)) ss)
clash_in_blocks H own tree ss None is = in_one_list H own tree ss None is
clash_in_blocks H own tree ss (Some clash) is = in_one_list H own tree ss (Some (list_difference_of clash)) is

-- in the first format each list is one tree, as all other trees are
pub strings_by_format : (H : List ℕ → List ℕ) (format : Format) (place : Tree) (n : ℕ) (shown : List tree.Shown) (digests : List (List ℕ))
    → (format ≡ Two → (term : ℕ) × (place ≡ ListOf term)) → tree_strings H format place n shown digests ≡ prefix_strings H format n shown digests
strings_by_format H One Header n shown digests listed = refl
strings_by_format H One Dictionary n shown digests listed = refl
strings_by_format H One (ListOf term) n shown digests listed = refl
strings_by_format H One DocumentsTree n shown digests listed = refl
strings_by_format H One (Terms doc) n shown digests listed = refl
strings_by_format H Two place n shown digests listed = rw (listed refl).1 refl

-- a tree whose strings are all the archive's own has no collision
pub none_in_own : (H : List ℕ → List ℕ) (archive : Archive) (query : List (List ℕ × ℕ)) (tree : Tree) (ss : List (Hashed NodeNumbers))
    → All (IsOurs (λ at. ours H archive query (in_tree tree at))) ss → None ≡ first_collision H (ours H archive query) (map (moved (in_tree tree)) ss)
none_in_own H archive query tree ss own =
    in_one_list H (ours H archive query) tree ss None (sym (own-none H (λ at. ours H archive query (in_tree tree at)) ss own))

-- ---- the header

pub header_found : (H : List ℕ → List ℕ) (place : Place) (o : Option (List ℕ)) (own text theirs : List ℕ) → Some own ≡ o → theirs ≡ text
    → (own ≢ theirs) × (H own ≡ H theirs)
    → Some (let c : Difference Place = record { place = place; ours = own; theirs = theirs } in c)
    ≡ collision_or H o (let s : Hashed Place = record { place = place; text = text } in s) None
header_found H place o own text theirs there same both =
    collides-is H own (let s : Hashed Place = record { place = place; text = theirs } in s) None both.0 both.1
    ∙ ap₂ (λ (p : Option (List ℕ)) (t : List ℕ). collision_or H p (let s : Hashed Place = record { place = place; text = t } in s) None) there same

pub header_not : (H : List ℕ → List ℕ) (place : Place) (o : Option (List ℕ)) (own text theirs : List ℕ) → Some own ≡ o → theirs ≡ text
    → ((own ≢ theirs) × (H own ≡ H theirs) → ⊥)
    → None ≡ collision_or H o (let s : Hashed Place = record { place = place; text = text } in s) None
header_not H place o own text theirs there same none =
    collides-not H own (let s : Hashed Place = record { place = place; text = theirs } in s) None none
    ∙ ap₂ (λ (p : Option (List ℕ)) (t : List ℕ). collision_or H p (let s : Hashed Place = record { place = place; text = t } in s) None) there same

pub header_absent : (H : List ℕ → List ℕ) (o : Option (List ℕ)) (s : Hashed Place) → None ≡ o → None ≡ collision_or H o s None
header_absent H o s none = ap (λ (p : Option (List ℕ)). collision_or H p s None) none

-- ---- the whole proof

pub collision-parts : (H : List ℕ → List ℕ) (archive : Archive) (query : List (List ℕ × ℕ)) (proof : Proof)
    (header dictionary lists documents : Option (Difference Place))
    → header ≡ first_collision H (ours H archive query) (hashed_header proof.format proof.header ∷ [])
    → dictionary ≡ first_collision H (ours H archive query) (strings_in H Dictionary proof.header.dict_leaves (map shown_entry proof.dict) proof.dict_digests)
    → lists ≡ first_collision H (ours H archive query) (flat_map (list_strings H proof.format proof.met) (presented query proof))
    → documents ≡ first_collision H (ours H archive query) (documents_strings H proof.header proof.met proof.docs)
    → option_or header (option_or dictionary (option_or lists documents)) ≡ proof_collision H archive query proof
collision-parts H archive query proof header dictionary lists documents in_header in_dictionary in_lists in_documents =
    let own : Place → Option (List ℕ) = ours H archive query
    in let a : List (Hashed Place) = hashed_header proof.format proof.header ∷ []
    in let b : List (Hashed Place) = strings_in H Dictionary proof.header.dict_leaves (map shown_entry proof.dict) proof.dict_digests
    in let c : List (Hashed Place) = flat_map (list_strings H proof.format proof.met) (presented query proof)
    in let d : List (Hashed Place) = documents_strings H proof.header proof.met proof.docs
    in ap₂ option_or in_header (ap₂ option_or in_dictionary (ap₂ option_or in_lists in_documents))
    ∙ sym (
    collision-append H own a (b ++ (c ++ d))
    ∙ ap (option_or (first_collision H own a)) (collision-append H own b (c ++ d) ∙ ap (option_or (first_collision H own b)) (collision-append H own c d))
    )

-- ---- the lengths of shown leaves

abbrev pub IsShort : tree.Shown → Type 0
IsShort s = length s.1 ≤ 127

entry-short : (e : ShownEntry) → IsShownInRange e → IsShort (shown_entry e)
unfolding dict_leaf_bytes
entry-short e range =
    let number : List ℕ = to_be_bytes w32 e.entry.f
    in let four : length number ≡ 4 = refl
    in omega (arith, range.few, range.sized, length-append (e.entry.term ++ number) e.entry.root, length-append e.entry.term number)

pub dictionary-short : (dict : List ShownEntry) → All IsShownInRange dict → All (λ (s : tree.Shown). length s.1 ≤ 127) (map shown_entry dict)
dictionary-short [] ranges = All-nil _
dictionary-short (e ∷ dict) ranges =
    All-cons (λ (s : tree.Shown). length s.1 ≤ 127) (shown_entry e) (map shown_entry dict) (entry-short e (All-head IsShownInRange e dict ranges))
    (dictionary-short dict (All-tail IsShownInRange e dict ranges))

term-short : (t : ShownTerm) → IsTermInRange t → IsShort (shown_term t)
unfolding terms.leaf_bytes
term-short t range =
    let two : length (to_be_bytes w16 t.term.1) ≡ 2 = refl
    in omega (arith, range.few, length-append t.term.0 (to_be_bytes w16 t.term.1))

pub terms-short : (leaves : List ShownTerm) → All IsTermInRange leaves → All (λ (s : tree.Shown). length s.1 ≤ 127) (map shown_term leaves)
terms-short [] ranges = All-nil _
terms-short (t ∷ leaves) ranges =
    All-cons (λ (s : tree.Shown). length s.1 ≤ 127) (shown_term t) (map shown_term leaves) (term-short t (All-head IsTermInRange t leaves ranges))
    (terms-short leaves (All-tail IsTermInRange t leaves ranges))

pub documents-short : (met : List ℕ) (leaves : List DocLeaf) → All IsDocLeafInRange leaves → All (λ (s : tree.Shown). length s.1 ≤ 127) (shown_docs met leaves)
documents-short [] leaves ranges = All-nil _
documents-short (id ∷ met) [] ranges = All-nil _
documents-short (id ∷ met) (leaf ∷ leaves) ranges =
    let first : tree.Shown = (id, doc_leaf_bytes leaf.leaves leaf.root)
    in let range : IsDocLeafInRange leaf = All-head IsDocLeafInRange leaf leaves ranges
    in let four : length (to_be_bytes w32 leaf.leaves) ≡ 4 = refl
    in All-cons (λ (s : tree.Shown). length s.1 ≤ 127) first (shown_docs met leaves)
    (omega (arith, range.sized, length-append (to_be_bytes w32 leaf.leaves) leaf.root))
    (documents-short met leaves (All-tail IsDocLeafInRange leaf leaves ranges))

pub list-short : (at : ℕ) (met : List ℕ) (entries : List Entry) → All (λ (s : tree.Shown). length s.1 ≤ 127) (shown_list at met entries)
list-short at met [] = All-nil _
list-short at met (e ∷ entries) =
    let first : tree.Shown = (at, leaf_bytes (named met e))
    in All-cons (λ (s : tree.Shown). length s.1 ≤ 127) first (shown_list (at + 1) met entries) (omega arith) (list-short (at + 1) met entries)

-- ---- the parts that are left to be looked through

-- strings whose first part has no collision
pub none_first : (H : List ℕ → List ℕ) (own : Place → Option (List ℕ)) (a b : List (Hashed Place)) → None ≡ first_collision H own a
    → first_collision H own (a ++ b) ≡ first_collision H own b
none_first H own a b none = collision-append H own a b ∙ ap (λ c. option_or c (first_collision H own b)) (sym none)

-- strings whose first part has one
pub one_first : (H : List ℕ → List ℕ) (own : Place → Option (List ℕ)) (a b : List (Hashed Place)) (c : Difference Place) → Some c ≡ first_collision H own a
    → Some c ≡ first_collision H own (a ++ b)
one_first H own a b c one = sym (collision-append H own a b ∙ ap (λ d. option_or d (first_collision H own b)) (sym one))

-- of parts one after another
module _ {X : Type 0} (H : List ℕ → List ℕ) (own : Place → Option (List ℕ)) (f : X → List (Hashed Place)) where
  -- the first one has a collision
  pub found_here : (xs : List X) (x : X) (rest : List X) (c : Difference Place) → xs ≡ x ∷ rest → Some c ≡ first_collision H own (f x)
      → Some c ≡ first_collision H own (flat_map f xs)
  found_here xs x rest c is one = one_first H own (f x) (flat_map f rest) c one ∙ ap (λ (ys : List X). first_collision H own (flat_map f ys)) (sym is)

  -- it has none
  pub not_here : (xs : List X) (x : X) (rest : List X) → xs ≡ x ∷ rest → None ≡ first_collision H own (f x)
      → first_collision H own (flat_map f xs) ≡ first_collision H own (flat_map f rest)
  not_here xs x rest is none = ap (λ (ys : List X). first_collision H own (flat_map f ys)) is ∙ none_first H own (f x) (flat_map f rest) none

-- what holds of all elements holds of all but the first
pub later_all : {X : Type 0} (P : X → Type 0) (xs : List X) → All P xs → All P (drop 1 xs)
later_all P [] all = all
later_all P (x ∷ xs) all = All-tail P x xs all

-- ---- the met documents, if they are shown

module _ (H : List ℕ → List ℕ) (own : Place → Option (List ℕ)) (header : Numbers) (met : List ℕ) (shown : Option Documents) (docs : Documents) (n : ℕ)
    (leaves : List tree.Shown) (ds : List (List ℕ)) (is : shown ≡ Some docs) (is_n : n ≡ header.documents) (is_leaves : leaves ≡ shown_docs met docs.leaves) (is_ds : ds ≡ docs.digests) where
  abbrev top : List (Hashed Place)
  top = strings_in H DocumentsTree header.documents (shown_docs met docs.leaves) docs.digests

  abbrev below : List (Hashed Place)
  below = flat_map (terms_strings H) (documents_from met docs.leaves docs.sections)

  top_is : strings_in H DocumentsTree n leaves ds ≡ top
  top_is = ap (λ k. strings_in H DocumentsTree k leaves ds) is_n ∙ ap₂ (λ a b. strings_in H DocumentsTree header.documents a b) is_leaves is_ds

  whole_is : top ++ below ≡ documents_strings H header met shown
  whole_is = ap (documents_strings H header met) (sym is)

  pub documents_found : (c : Difference Place) → Some c ≡ first_collision H own (strings_in H DocumentsTree n leaves ds)
      → Some c ≡ first_collision H own (documents_strings H header met shown)
  documents_found c one = one_first H own top below c (one ∙ ap (first_collision H own) top_is) ∙ ap (first_collision H own) whole_is

  pub documents_later : (later : Option (Difference Place)) → None ≡ first_collision H own (strings_in H DocumentsTree n leaves ds)
      → later ≡ first_collision H own below → later ≡ first_collision H own (documents_strings H header met shown)
  documents_later later none found =
      found ∙ sym (none_first H own top below (none ∙ ap (first_collision H own) top_is)) ∙ ap (first_collision H own) whole_is

  pub documents_rebuild : AreDocsRooted H header met shown → IsSome (rebuilt H n leaves ds)
  documents_rebuild rooted =
      let root : rebuilt H header.documents (shown_docs met docs.leaves) docs.digests ≡ Some header.docs_root = subst (AreDocsRooted H header met) is rooted
      in rebuilds_by H One One n header.documents leaves (shown_docs met docs.leaves) ds docs.digests header.docs_root refl is_n is_leaves is_ds root

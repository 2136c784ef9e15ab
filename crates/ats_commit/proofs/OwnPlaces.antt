-- The places of an archive's own strings, and places that have none.
use Rattle.std.proofs.Common.{◌≡◌, ◌∙◌, ◌≤◌, ◌<◌, ◌^◌, ℕ, zero, suc, List, [], length, map, nat_lt, IsSome, IfSome, Option, Some, None, false, All, get_or, refl, sym, ap, subst, arith}
use Rattle.std.proofs.Math.Nat.{min-le_right}
use Rattle.std.proofs.lemmas.Bool.Decides.{nat_tests}
use Rattle.std.proofs.lemmas.List.{nil_from_length, length-map}
use Rattle.std.proofs.lemmas.List.Elements.{All-map}
use Rattle.ats_tree.specs.Differences.{Hashed, IsOurs, moved}
use Rattle.ats_tree.specs.OwnShown.{IsOwnShown}
use Rattle.ats_tree.specs.Shown.{Shown}
use Rattle.ats_tree.specs.Tree.{tree_of, tree_within}
use Rattle.ats_tree.specs.Nodes.{Node, NodeNumbers, by_path, numbers_of}
use Rattle.ats_tree.specs.Paths.{path_of}
use Rattle.ats_tree.specs.Strings.{string_at, node_string, node_strings}
use Rattle.ats_tree.specs.declared.places.Tree.{Tree}
use Rattle.ats_tree.specs.declared.places.Tree.TheVariants.{Header, Dictionary, List as ListOf, Documents, Terms}
use Rattle.ats_tree.proofs.Public.{length-path_of, node-ours, numbers-lead, own-shown}
use Rattle.ats_impact.specs.Score.{frequency}
use Rattle.ats_lists.specs.Formats.{deepest, first_leaves, list_string, prefix_digests, prefix_strings}
use Rattle.ats_lists.specs.Leaf.{leaf_bytes}
use Rattle.ats_postings.specs.Lists.{list}
use Rattle.ats_postings.specs.declared.entry.Entry.{Entry}
use Rattle.ats_lists.specs.declared.format.Format.{Format}
use Rattle.ats_lists.specs.declared.format.Format.TheVariants.{One, Two}
use Rattle.ats_postings.proofs.Public.{list_frequency}
use Rattle.ats_lists.proofs.Public.{list-empty, list-within, list-turns, path-turns, front-own, numbers-own}
use Rattle.ats_commit.specs.Archive.{Archive}
use Rattle.ats_commit.specs.Ours.{asked_term, own_leaves, own_header, own_string, ours}
use Rattle.ats_commit.specs.OwnShown.{IsOwnFront, IsOwnListShown, IsOwnTreeShown, tree_strings}
use Rattle.ats_commit.specs.Places.{in_tree, depth_limit}

-- ---- what is shown of a list

-- a string that is known is the archive's own
known_own : (o : Option (List ℕ)) (text : List ℕ) → o ≡ Some text → IfSome o (λ own. own ≡ text)
known_own o text is = subst (λ (x : Option (List ℕ)). IfSome x (λ own. own ≡ text)) (sym is) refl

-- what is known of the nodes of a tree is known by their numbers
node_ours : (H : List ℕ → List ℕ) (own : NodeNumbers → Option (List ℕ)) (leaves : List (List ℕ)) (n : ℕ) (shown : List Shown) (digests : List (List ℕ))
    → ((node : Node) → own (numbers_of node) ≡ node_string H leaves node) → IsOwnShown H leaves n shown digests
    → All (IsOurs own) (map (moved numbers_of) (node_strings H n shown digests))
node_ours H own leaves n shown digests same is =
    All-map (IsOurs own) (moved numbers_of) (node_strings H n shown digests) (λ k d inside.
    let s : Hashed Node = get_or (node_strings H n shown digests) k d in
    subst (λ (o : Option (List ℕ)). IfSome o (λ (mine : List ℕ). mine ≡ s.text)) (sym (same s.place))
    (own-shown H leaves n shown digests is k d inside))

-- the first entries of a list in blocks
front_ours : (H : List ℕ → List ℕ) (entries : List Entry) (n : ℕ) (shown : List Shown) (digests : List (List ℕ))
    → IsOwnFront H Two entries n shown digests → All (IsOurs (list_string H Two entries)) (prefix_strings H Two n shown digests)
front_ours H entries n shown digests is =
    let count : ℕ = length shown in
    let Ours : ℕ → List Shown → List (List ℕ) → Type 0 = λ n s ds. All (IsOurs (list_string H Two entries)) (prefix_strings H Two n s ds) in
    let first : List Shown = first_leaves entries count in
    let needed : List (List ℕ) = prefix_digests H Two entries count in
    let own : Ours (length entries) first needed = λ k d inside.
    let s : Hashed NodeNumbers = get_or (prefix_strings H Two (length entries) first needed) k d in
    known_own (list_string H Two entries s.place) s.text (front-own H Two entries count is.some (omega (arith, is.within, is.number)) k d inside) in
    subst (λ m. Ours m shown digests) is.number
    (subst (λ s. Ours (length entries) s digests) (sym is.leaves) (subst (λ ds. Ours (length entries) first ds) (sym is.needed) own))

list_ours : (H : List ℕ → List ℕ) (format : Format) (entries : List Entry) (n : ℕ) (shown : List Shown) (digests : List (List ℕ))
    → IsOwnListShown H format entries n shown digests → All (IsOurs (list_string H format entries)) (prefix_strings H format n shown digests)
list_ours H One entries n shown digests is = node_ours H (list_string H One entries) (map leaf_bytes entries) n shown digests (numbers-own H entries) is
list_ours H Two entries n shown digests is = front_ours H entries n shown digests is

-- ---- the strings of an archive

deepest_few : (format : Format) → deepest format 31 ≤ 31
deepest_few One = omega arith
deepest_few Two = omega (arith, min-le_right 32 7)

module _ (H : List ℕ → List ℕ) (archive : Archive) (query : List (List ℕ × ℕ)) where
  -- no string is deeper than its tree is high
  node_within : (leaves : List (List ℕ)) (at : NodeNumbers) (h : ℕ) → length leaves ≤ 2 ^ h
      → IsSome (node_string H leaves (by_path (path_of at.depth at.turns))) → at.depth ≤ h
  node_within leaves at h few there =
      omega (arith, length-path_of at.depth at.turns, node-ours H h leaves (by_path (path_of at.depth at.turns)) few there)

  header_within : (depth h : ℕ) → IsSome (own_header H archive depth) → depth ≤ h
  header_within zero h there = omega arith
  header_within (suc depth) h there = absurd (cc)

  -- the entries of the list of a term of the query
  abbrev entries_of : ℕ → List Entry
  entries_of number = list archive.texts (asked_term query number)

  pub own_within : (tree : Tree) (at : NodeNumbers) (h : ℕ) → length (own_leaves H archive query tree) ≤ 2 ^ h
      → IsSome (own_string H archive query tree at) → at.depth ≤ depth_limit archive.format tree h
  own_within Header at h few there = header_within at.depth h there
  own_within Dictionary at h few there = node_within (own_leaves H archive query Dictionary) at h few there
  own_within (ListOf number) at h few there =
      list-within H archive.format (entries_of number) at h (omega (arith, few, length-map (entries_of number) leaf_bytes)) there
  own_within Documents at h few there = node_within (own_leaves H archive query Documents) at h few there
  own_within (Terms doc) at h few there = node_within (own_leaves H archive query (Terms doc)) at h few there

  -- the numbers of a place lead to the string there, and so do these of 8 and of 32 bits
  abbrev pub Fits : (NodeNumbers → Option (List ℕ)) → NodeNumbers → Type 0
  Fits own at =
      (at.depth < 2 ^ 8) × ((turns : ℕ) × (turns < 2 ^ 32) × (own (let same : NodeNumbers = record { depth = at.depth; turns = turns } in same) ≡ own at))

  node_fits : (leaves : List (List ℕ)) (at : NodeNumbers) → length leaves ≤ 2 ^ 31
      → IsSome (node_string H leaves (by_path (path_of at.depth at.turns)))
      → Fits (λ numbers. node_string H leaves (by_path (path_of numbers.depth numbers.turns))) at
  node_fits leaves at few there =
      let deep : at.depth ≤ 31 = node_within leaves at 31 few there in
      let same = path-turns at.depth at.turns (omega arith) in
      (omega arith, (same.0, same.1, ap (λ path. node_string H leaves (by_path path)) same.2))

  pub own_fits : (tree : Tree) (at : NodeNumbers) → length (own_leaves H archive query tree) ≤ 2 ^ 31
      → IsSome (own_string H archive query tree at) → Fits (own_string H archive query tree) at
  own_fits Header at few there = (omega (arith, header_within at.depth 0 there), (0, omega arith, refl))
  own_fits Dictionary at few there = node_fits (own_leaves H archive query Dictionary) at few there
  own_fits (ListOf number) at few there =
      let few' : length (entries_of number) ≤ 2 ^ 31 = omega (arith, few, length-map (entries_of number) leaf_bytes) in (
        omega (arith, list-within H archive.format (entries_of number) at 31 few' there, deepest_few archive.format),
        list-turns H archive.format (entries_of number) at few' there,
      )
  own_fits Documents at few there = node_fits (own_leaves H archive query Documents) at few there
  own_fits (Terms doc) at few there = node_fits (own_leaves H archive query (Terms doc)) at few there

  none_in : (leaves : List (List ℕ)) (node : Node) → leaves ≡ [] → node_string H leaves node ≡ None
  unfolding tree_of tree_within
  none_in leaves (by_path path) none = ap (λ (xs : List (List ℕ)). string_at H (tree_of xs) path) none

  -- there is no string in the list of a term that no text has
  pub none_in_list : (number : ℕ) (at : NodeNumbers) → frequency (asked_term query number) archive.texts ≡ 0
      → own_string H archive query (ListOf number) at ≡ None
  none_in_list number at none =
      let absent : entries_of number ≡ [] = nil_from_length (entries_of number) (list_frequency archive.texts (asked_term query number) ∙ none) in
      ap (λ (entries : List Entry). list_string H archive.format entries at) absent ∙ list-empty H archive.format at

  -- nor in the tree of a document past the last
  pub none_past : (doc : ℕ) (at : NodeNumbers) → length archive.texts ≤ doc → own_string H archive query (Terms doc) at ≡ None
  none_past doc at past =
      let outside : nat_lt doc (length archive.texts) ≡ false = grind (arith, nat_tests) in
      none_in (own_leaves H archive query (Terms doc)) (by_path (path_of at.depth at.turns)) (rw outside refl)

  -- a tree that is no list's, whose strings are found by the numbers of its nodes
  tree_ours : (tree : Tree) (n : ℕ) (shown : List Shown) (digests : List (List ℕ))
      → ((node : Node) → own_string H archive query tree (numbers_of node) ≡ node_string H (own_leaves H archive query tree) node)
      → IsOwnShown H (own_leaves H archive query tree) n shown digests
      → All (IsOurs (λ at. ours H archive query (in_tree tree at))) (map (moved numbers_of) (node_strings H n shown digests))
  tree_ours tree n shown digests same is = node_ours H (own_string H archive query tree) (own_leaves H archive query tree) n shown digests same is

  -- if what is shown of a tree is the archive's own, so is each string that is hashed from it
  pub shown_are_ours : (format : Format) (tree : Tree) (n : ℕ) (shown : List Shown) (digests : List (List ℕ))
      → IsOwnTreeShown H archive query format tree n shown digests
      → All (IsOurs (λ at. ours H archive query (in_tree tree at))) (tree_strings H format tree n shown digests)
  shown_are_ours format Header n shown digests is = absurd (omega (arith, is.some, is.number))
  shown_are_ours format Dictionary n shown digests is =
      tree_ours Dictionary n shown digests (λ node. ap (node_string H (own_leaves H archive query Dictionary)) (numbers-lead node)) is
  shown_are_ours format (ListOf number) n shown digests is =
      subst (λ f. All (IsOurs (list_string H f (entries_of number))) (prefix_strings H format n shown digests)) is.0
      (list_ours H format (entries_of number) n shown digests is.1)
  shown_are_ours format Documents n shown digests is =
      tree_ours Documents n shown digests (λ node. ap (node_string H (own_leaves H archive query Documents)) (numbers-lead node)) is
  shown_are_ours format (Terms doc) n shown digests is =
      tree_ours (Terms doc) n shown digests (λ node. ap (node_string H (own_leaves H archive query (Terms doc))) (numbers-lead node)) is

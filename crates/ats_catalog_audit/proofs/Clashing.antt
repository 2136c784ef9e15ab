-- The roots of a list as shown leaves, one after another, and the first clash of two lists of roots.
use Rattle.std.proofs.Common.{◌≡◌, ◌∙◌, ◌<◌, ◌≤◌, ◌+◌, ◌^◌, ℕ, true, false, List, [], ◌∷◌, length, map, drop, get_or, slice_index, Option, Some, None, IfSome, refl, sym, ap, subst, arith}
use Rattle.std.specs.List.{All}
use Rattle.std.specs.List.Sorted.{IsStrictlyIncreasing}
use Rattle.std.specs.Option.{option_map}
use Rattle.std.proofs.lemmas.List.{drop_more, drop_all, drop-map, get_or-drop, get_or_default, length-drop}
use Rattle.std.proofs.lemmas.List.Elements.{All-nil, All-cons, All-head, All-tail}
use Rattle.ats_tree.specs.Clashes as tree
use Rattle.ats_tree.specs.Differences.{Hashed, moved, Difference, first_collision}
use Rattle.ats_tree.specs.Nodes.{Node, NodeNumbers, numbers_of}
use Rattle.ats_tree.specs.Shown.{Shown, positions_of}
use Rattle.ats_tree.specs.Paths.{Path}
use Rattle.ats_tree.specs.Strings.{node_string, node_strings, string_at}
use Rattle.ats_tree.specs.Tree.{Tree, empty, leaf, node}
use Rattle.ats_tree.specs.declared.clashing.Clash.{Clash}
use Rattle.ats_tree.proofs.Public.{collision-moved, moved_collision, numbers-back, numbers-lead}
use Rattle.ats_catalog_bytes.specs.Strings.{RootsPlace, in_roots, roots_string, tree_strings}
use Rattle.ats_catalog_bytes.specs.Value.{Framed, IsFrame, shown_roots}
use Rattle.ats_catalog_audit.specs.Inner.Clashes.{difference_in}
use Rattle.ats_catalog_bytes.proofs.Public.{all_shown, positions_rise, leaf_is, shown_many}

-- ---- the roots that are left

-- the first one left, and those after it
pub left_more : (roots : List (List ℕ)) (k : ℕ) → k < length roots
    → drop k (all_shown roots) ≡ (k, get_or roots k []) ∷ drop (k + 1) (all_shown roots)
left_more roots k low =
    drop_more (all_shown roots) k (0, []) (omega (arith, low, shown_many roots))
    ∙ ap (λ (s : Shown). s ∷ drop (k + 1) (all_shown roots)) (leaf_is roots k low)

-- what is left is there
pub left_inside : (roots : List (List ℕ)) (k : ℕ) → 0 < length (drop k (all_shown roots)) → k < length roots
left_inside roots k some = omega (arith, some, length-drop k (all_shown roots), shown_many roots)

pub none_left : (roots : List (List ℕ)) (k : ℕ) → length roots ≤ k → drop k (all_shown roots) ≡ []
none_left roots k past = drop_all k (all_shown roots) (omega (arith, past, shown_many roots))

-- their numbers rise
pub left_rise : (roots : List (List ℕ)) (k : ℕ) → IsStrictlyIncreasing (positions_of (drop k (all_shown roots)))
left_rise roots k = subst IsStrictlyIncreasing (drop-map (λ (s : Shown). s.0) k (all_shown roots)) (dropped (positions_of (all_shown roots)) k (positions_rise roots))
  where
    dropped : (xs : List ℕ) (k : ℕ) → IsStrictlyIncreasing xs → IsStrictlyIncreasing (drop k xs)
    dropped xs k rise i inside =
        let here : slice_index (drop k xs) i ≡ slice_index xs (k + i) = get_or-drop k xs i 0 in
        let next : slice_index (drop k xs) (i + 1) ≡ slice_index xs (k + i + 1) = get_or-drop k xs (i + 1) 0 ∙ ap (slice_index xs) (omega arith) in
        omega (arith, here, next, rise (k + i) (omega (arith, inside, length-drop k xs)))

-- ---- the tree

-- a clash of the tree, at its place
placed : (o : Option (Clash (List ℕ))) → IfSome o (λ c. c.turns < 2 ^ c.depth)
    → option_map (moved_collision in_roots) (option_map (moved_collision numbers_of) (option_map (tree.difference_of (λ s. s)) o)) ≡ option_map difference_in o
placed None inside = refl
placed (Some c) inside =
    ap (λ (at : NodeNumbers). Some (let d : Difference RootsPlace = record { place = in_roots at; ours = c.ours; theirs = c.theirs } in d))
    (numbers-back c.depth c.turns inside)

-- the first clash of the tree of our roots is the first collision with it
pub tree_found : (H : List ℕ → List ℕ) (ours theirs : List (List ℕ)) (o : Option (Clash (List ℕ))) → IfSome o (λ c. c.turns < 2 ^ c.depth)
    → option_map (tree.difference_of (λ s. s)) o ≡ first_collision H (node_string H ours) (node_strings H (length theirs) (all_shown theirs) [])
    → option_map difference_in o ≡ first_collision H (roots_string H ours) (tree_strings H theirs)
tree_found H ours theirs o inside is =
    let own : RootsPlace → Option (List ℕ) = roots_string H ours in
    let nodes : List (Hashed Node) = node_strings H (length theirs) (all_shown theirs) [] in
    let lead : first_collision H (node_string H ours) nodes ≡ first_collision H (λ (node : Node). own (in_roots (numbers_of node))) nodes =
    λ i. first_collision H (λ (node : Node). node_string H ours (sym (numbers-lead node) i)) nodes in
    sym (placed o inside)
    ∙ ap (λ (c : Option (Difference Node)). option_map (moved_collision in_roots) (option_map (moved_collision numbers_of) c)) (is ∙ lead)
    ∙ sym (
    collision-moved H in_roots own (map (moved numbers_of) nodes)
    ∙ ap (option_map (moved_collision in_roots)) (collision-moved H numbers_of (λ (at : NodeNumbers). own (in_roots at)) nodes)
    )

-- ---- what is hashed

-- each string of a tree begins with its tag
pub string_tagged : (H : List ℕ → List ℕ) (t : Tree (List ℕ)) (path : Path) → IfSome (string_at H t path) (λ own. 0 < length own)
string_tagged H empty path = tt
string_tagged H (leaf d) [] = omega arith
string_tagged H (leaf d) (turn ∷ path) = tt
string_tagged H (node l r) [] = omega arith
string_tagged H (node l r) (false ∷ path) = string_tagged H l path
string_tagged H (node l r) (true ∷ path) = string_tagged H r path

-- shown roots are short
pub all_short : (roots : List (List ℕ)) → All (λ (root : List ℕ). length root ≡ 32) roots → All (λ (s : Shown). length s.1 ≤ 127) (all_shown roots)
all_short roots sized k d inside =
    let low : k < length roots = omega (arith, inside, shown_many roots) in
    let is : get_or (all_shown roots) k d ≡ (k, get_or roots k []) = get_or_default (all_shown roots) k d (0, []) inside ∙ leaf_is roots k low in
    let small : length (get_or roots k []) ≡ 32 = sized k [] low in
    omega (arith, small, ap (λ (s : Shown). length s.1) is)

-- the roots that a file shows have 32 bytes
pub roots_sized : (shards : List Framed) → All IsFrame shards → All (λ (root : List ℕ). length root ≡ 32) (shown_roots shards)
roots_sized [] each = All-nil (λ (root : List ℕ). length root ≡ 32)
roots_sized (one ∷ shards) each =
    All-cons (λ (root : List ℕ). length root ≡ 32) one.root (shown_roots shards) (All-head IsFrame one shards each).sized (roots_sized shards (All-tail IsFrame one shards each))

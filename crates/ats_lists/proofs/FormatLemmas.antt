-- What is shown of a list is bound to it, in either format.
use Rattle.std.proofs.Common.{◌≡◌, ℕ, List, length, map, refl, sym, ap, Option, Some, subst, MatchOption, All, slice_get, get_or}
use Rattle.std.proofs.lemmas.List.{length-map}
use Rattle.ats_tree.specs.Tree.{tree_of}
use Rattle.ats_tree.specs.Shown.{Shown}
use Rattle.ats_tree.specs.Nodes.{Node, by_path, numbers_of}
use Rattle.ats_tree.specs.Strings.{string_at, node_string, node_strings}
use Rattle.ats_tree.specs.Differences.{Hashed, Difference, first_difference}
use Rattle.ats_tree.proofs.Public.{bound_to, known-moved, difference-alike, node-some, Collides}
use Rattle.ats_lists.specs.Formats.{list_root, list_string, prefix_root, IsListBoundTo}
use Rattle.ats_lists.specs.Leaf.{leaf_bytes}
use Rattle.ats_postings.specs.declared.entry.Entry.{Entry}
use Rattle.ats_lists.specs.declared.format.Format.{Format}
use Rattle.ats_lists.specs.declared.format.Format.TheVariants.{One, Two}
use Rattle.ats_lists.proofs.Fronts.{front-rises}
use Rattle.ats_lists.proofs.BlockLemmas.{IsShownFront}
use Rattle.ats_lists.proofs.ChainBinding.{chain-bound_to}

-- the string with a node's numbers is the node's
pub numbers-own : (H : List ℕ → List ℕ) (entries : List Entry) (node : Node)
    → list_string H One entries (numbers_of node) ≡ node_string H (map leaf_bytes entries) node
numbers-own H entries (by_path path) = ap (string_at H (tree_of (map leaf_bytes entries))) (node-some (by_path path)).0

pub list-bound : (H : List ℕ → List ℕ) → ((m : List ℕ) → length (H m) ≡ 32) → (format : Format) (shown : List Shown) (digests : List (List ℕ)) (entries : List Entry)
    → IsShownFront shown → All (λ d. length d ≡ 32) digests
    → prefix_root H format (length entries) shown digests ≡ Some (list_root H format entries)
    → IsListBoundTo H format (length entries) shown digests entries
list-bound H sized One shown digests entries front all is =
    let leaves : List (List ℕ) = map leaf_bytes entries
    in let ss : List (Hashed Node) = node_strings H (length entries) shown digests
    in let alike : first_difference (λ node. list_string H One entries (numbers_of node)) ss ≡ first_difference (node_string H leaves) ss =
    difference-alike (λ node. list_string H One entries (numbers_of node)) (node_string H leaves) ss (λ k d less. numbers-own H entries (get_or ss k d).place)
    in let Own : Type 0 = All (λ s. slice_get leaves s.0 ≡ Some s.1) shown
    in let Goal : Option (Difference Node) → Type 0 = λ c. MatchOption c Own (Collides H)
    in known-moved H Own numbers_of (list_string H One entries) ss
    (subst Goal (sym alike)
    (bound_to H sized (length entries) shown digests (list_root H One entries) (front-rises 0 (length shown) shown front) all is leaves (length-map entries leaf_bytes) refl))
list-bound H sized Two shown digests entries front all is =
    chain-bound_to H sized (length entries) shown digests (list_root H Two entries) front all is (map leaf_bytes entries) (length-map entries leaf_bytes) refl

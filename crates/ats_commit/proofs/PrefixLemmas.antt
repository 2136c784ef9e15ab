-- What is known of the strings of one tree is known of them by their numbers.
use Rattle.std.proofs.Common.{◌≡◌, ℕ, List, map, Option, subst, sym, MatchOption}
use Rattle.ats_tree.specs.Differences.{Hashed, moved, first_difference}
use Rattle.ats_tree.specs.Nodes.{Node, NodeNumbers, numbers_of}
use Rattle.ats_tree.proofs.Public.{known-moved, Collides}

-- what is known of the strings of one tree, unless the first difference collides, is known of them by their numbers
pub known-by-numbers : (H : List ℕ → List ℕ) (A : Type 0) (own : NodeNumbers → Option (List ℕ)) (there : Node → Option (List ℕ)) (ss : List (Hashed Node))
    → ((node : Node) → own (numbers_of node) ≡ there node) → MatchOption (first_difference there ss) A (Collides H)
    → MatchOption (first_difference own (map (moved numbers_of) ss)) A (Collides H)
known-by-numbers H A own there ss same known =
    let Known : (Node → Option (List ℕ)) → Type 0 = λ strings. MatchOption (first_difference strings ss) A (Collides H)
    in known-moved H A numbers_of own ss (subst Known (λ i node. sym (same node) i) known)

-- What the strings of one tree show, among those of the whole archive.
use Rattle.std.proofs.Common.{◌≡◌, ℕ, List, map, Option}
use Rattle.ats_tree.specs.Differences.{Hashed, moved}
use Rattle.ats_tree.specs.Nodes.{Node, numbers_of}
use Rattle.ats_tree.specs.declared.places.Place.{Place}
use Rattle.ats_tree.specs.declared.places.Tree.{Tree}
use Rattle.ats_tree.proofs.Public.{Binds, binds-moved}
use Rattle.ats_commit.specs.Places.{in_tree}
use Rattle.ats_commit.proofs.Public.{known-by-numbers}

-- the strings of one tree show what they show among the strings there
pub tree-binds : (H : List ℕ → List ℕ) (tree : Tree) (own : Place → Option (List ℕ)) (there : Node → Option (List ℕ)) (ss : List (Hashed Node)) (A : Type 0)
    → ((node : Node) → own (in_tree tree (numbers_of node)) ≡ there node) → Binds H there ss A
    → Binds H own (map (moved (in_tree tree)) (map (moved numbers_of) ss)) A
tree-binds H tree own there ss A same bound =
    binds-moved H (in_tree tree) own (map (moved numbers_of) ss) A (known-by-numbers H A (λ at. own (in_tree tree at)) there ss same bound)

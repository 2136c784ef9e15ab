-- Beside specs/Clashes: what only the functions of this room promise one another.
use Rattle.std.specs.Prelude.{ℕ, ◌-◌, ◌<◌, ◌≤◌, ◌^◌, List, ◌++◌, map, Option}
use Rattle.ats_tree.specs.Tree.{Tree}
use Rattle.ats_tree.specs.Paths.{Path}
use Rattle.ats_tree.specs.Nodes.{Node, by_path}
use Rattle.ats_tree.specs.Differences.{Hashed, moved}
use Rattle.ats_tree.specs.Strings.{strings}

-- the node to which further turns lead from the node of a path
abbrev pub under : Path → Path → Node
under path further = by_path (path ++ further)

-- the strings that rebuilding hashes in a part whose root is the node of a path
abbrev pub part_strings : (List ℕ → List ℕ) → Path → Tree (Option (List ℕ)) → List (List ℕ) → List (Hashed Node)
part_strings H path t ds = map (moved (under path)) (strings H t ds)

-- a part of n leaves whose root has this depth, in a tree of fewer than 2^32 leaves
pub record IsPlaced (n depth turns : ℕ) : Type 0 where
  pub deep : depth ≤ 32
  pub few : n ≤ 2 ^ (32 - depth)
  pub inside : turns < 2 ^ depth

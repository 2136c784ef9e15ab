-- Collisions as `Clash` reports them, and the parts of a tree that are searched for them.
use Rattle.std.specs.Prelude.{ℕ, List}
use Rattle.ats_tree.specs.Paths.{path_of}
use Rattle.ats_tree.specs.Nodes.{Node, by_path}
use Rattle.ats_tree.specs.Differences.{Difference}
use Rattle.ats_tree.specs.declared.clashing.Clash.{Clash}

-- the two strings at one node that a clash has, by their bytes
abbrev pub difference_of : {S : Type 0} → (S → List ℕ) → Clash S → Difference Node
difference_of bytes clash =
    record { place = by_path (path_of clash.depth clash.turns); ours = bytes clash.ours; theirs = bytes clash.theirs }

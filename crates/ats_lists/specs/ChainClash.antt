-- The first collision of the strings of a list in blocks, and what is known of it block by block.
use Rattle.std.specs.Prelude.{ℕ, List}
use Rattle.ats_tree.specs.Nodes.{NodeNumbers}
use Rattle.ats_tree.specs.Differences.{Difference}
use Rattle.ats_tree.specs.declared.clashing.Clash.{Clash}

-- the two strings with the same numbers that a clash has
abbrev pub list_difference_of : Clash (List ℕ) → Difference NodeNumbers
list_difference_of clash =
    record { place = record { depth = clash.depth; turns = clash.turns }; ours = clash.ours; theirs = clash.theirs }

-- Beside specs/Sections: what only the functions of this room promise one another.
use Rattle.std.specs.Prelude.{ℕ, List}
use Rattle.ats_tree.specs.Differences.{Difference}
use Rattle.ats_tree.specs.declared.places.Place.{Place}
use Rattle.ats_tree.specs.declared.clashing.Clash as found
use Rattle.ats_tree.specs.declared.places.Tree.{Tree}

-- the two strings of a clash that was found in a tree or in a list
abbrev pub difference_in : Tree → found.Clash (List ℕ) → Difference Place
difference_in tree clash = record {
  place = record { tree = tree; depth = clash.depth; turns = clash.turns };
  ours = clash.ours;
  theirs = clash.theirs;
}

-- Clashes of roots, and the string of the header over some of them.
use Rattle.std.specs.Prelude.{ℕ, List}
use Rattle.ats_tree.specs.Differences.{Hashed, Difference}
use Rattle.ats_tree.specs.declared.clashing.Clash.{Clash}
use Rattle.ats_catalog_bytes.specs.Catalog.{string_over}
use Rattle.ats_catalog_bytes.specs.Strings.{RootsPlace, catalog_place, in_roots}

-- the two strings of a clash that was found in the tree of the roots
abbrev pub difference_in : Clash (List ℕ) → Difference RootsPlace
difference_in clash = record {
  place = in_roots (record { depth = clash.depth; turns = clash.turns });
  ours = clash.ours;
  theirs = clash.theirs;
}

-- the string of the header over some roots
abbrev pub hashed_header : (List ℕ → List ℕ) → List (List ℕ) → Hashed RootsPlace
hashed_header H roots = record { place = catalog_place; text = string_over H roots }

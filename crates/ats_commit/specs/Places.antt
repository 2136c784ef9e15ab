-- Places in the trees of an archive.
use Rattle.std.specs.Prelude.{ℕ, ◌<◌, List, length, ⊤}
use Rattle.ats_lists.specs.Formats.{deepest}
use Rattle.ats_lists.specs.declared.format.Format.{Format}
use Rattle.ats_tree.specs.Nodes.{NodeNumbers}
use Rattle.ats_tree.specs.declared.places.Place.{Place}
use Rattle.ats_tree.specs.declared.places.Tree.{Tree}
use Rattle.ats_tree.specs.declared.places.Tree.TheVariants.{Header, Dictionary, List as ListOf, Documents, Terms}

-- the place in a tree that these two numbers name
abbrev pub in_tree : Tree → NodeNumbers → Place
in_tree tree at = record { tree = tree; depth = at.depth; turns = at.turns }

-- the two numbers that name a place in its tree
abbrev pub numbers_at : Place → NodeNumbers
numbers_at place = record { depth = place.depth; turns = place.turns }

-- how deep the strings of a tree of at most 2^h leaves stand, at most; those of a list stand by its format
abbrev pub depth_limit : Format → Tree → ℕ → ℕ
depth_limit format (ListOf term) h = deepest format h
depth_limit format tree h = h

-- if the tree is that of a list, it is of one of the query's terms
abbrev pub IsOfQuery : List (List ℕ × ℕ) → Tree → Type 0
IsOfQuery query Header = ⊤
IsOfQuery query Dictionary = ⊤
IsOfQuery query (ListOf term) = term < length query
IsOfQuery query Documents = ⊤
IsOfQuery query (Terms doc) = ⊤

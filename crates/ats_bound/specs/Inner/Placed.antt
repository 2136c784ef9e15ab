-- A bracket with its place in a list of brackets.
use Rattle.std.specs.Prelude.{◌≡◌, List}
use Rattle.std.specs.Ordering.{nat_cmp}
use Rattle.std.specs.declared.cmp.Ordering.{Ordering}
use Rattle.ats_bound.specs.declared.bracket.Bracket.{Bracket}
use Rattle.ats_bound.specs.declared.choosing.Placed.{Placed}
use Rattle.ats_bound.specs.Settled.{bracket_at}
use Rattle.ats_bound.specs.Chosen.{bracket_cmp}

abbrev pub bracket_of : Placed → Bracket
bracket_of placed = record { doc = placed.doc; lo = placed.lo; hi = placed.hi }

-- the bracket at its place in the list is this one
abbrev pub IsPlaced : List Bracket → Placed → Type 0
IsPlaced brackets placed = bracket_of placed ≡ bracket_at brackets placed.place

-- in the order of their brackets
abbrev pub placed_cmp : Placed → Placed → Ordering
placed_cmp a b = bracket_cmp (bracket_of a) (bracket_of b)

-- by document
abbrev pub doc_cmp : Bracket → Bracket → Ordering
doc_cmp a b = nat_cmp a.doc b.doc

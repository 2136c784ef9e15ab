-- The first two strings that differ at one place, whatever the place.
use Rattle.std.specs.Prelude.{ℕ, List, ◌∷◌, ◌++◌, if◌then◌else◌, Option, Some, None, option_map}
use Rattle.std.specs.Str.{bytes_eq}
use Rattle.ats_tree.specs.Differences.{Hashed, Difference, first_difference}
use Rattle.ats_growth_check.specs.Strings.{Beside}
use Rattle.ats_growth_proof.specs.Verdicts.{collision_of}
use Rattle.ats_growth_proof.specs.declared.joining.Children.{Children}
use Rattle.ats_growth_proof.specs.declared.joining.FirstDifference.{FirstDifference}
use Rattle.ats_growth_proof.specs.declared.joining.FirstDifference.TheVariants.{Node, Texts}

-- the two strings of a pair, in its order
pub record Two : Type 0 where
  pub first : List ℕ
  pub second : List ℕ

abbrev pub two_of : {P : Type 0} → Difference P → Two
two_of d = record { first = d.theirs; second = d.ours }

-- the first of these strings that differs from the second one at its place, and that one
abbrev pub first_unlike : {P : Type 0} → (P → Option (List ℕ)) → List (Hashed P) → Option Two
first_unlike second ss = option_map two_of (first_difference second ss)

-- two strings if they differ, and else what differs later
abbrev pub unlike_or : (first second : List ℕ) → Option Two → Option Two
unlike_or first second later =
    if bytes_eq second first
    then later
    else Some (record { first = first; second = second })

-- the first of two that differ, if there is one
abbrev pub or_two : Option Two → Option Two → Option Two
or_two None later = later
or_two (Some two) later = Some two

-- the string of a node with these children
abbrev pub string_of : Children → List ℕ
string_of children = 1 ∷ children.left ++ children.right

-- the two strings, each after its tag: 1 of a node, and 0 of a text
abbrev pub strings_of : FirstDifference → Two
strings_of (Node first second) = record { first = string_of first; second = string_of second }
strings_of (Texts first second) = record { first = 0 ∷ first.now; second = 0 ∷ second.now }

-- two strings in this part, as a difference
abbrev pub in_part : ℕ → Two → Difference Beside
in_part part two = collision_of part two.first two.second

-- What stops an audit of something accepted: its first collision, by its lines.
use Rattle.std.specs.Prelude.{◌≡◌, ◌≢◌, ◌++◌, ℕ, Bool, true, false, List, Option, Some, None, codes, decimal}
use Rattle.ats_tree.specs.Differences.{Difference}
use Rattle.ats_tree.specs.declared.places.Place.{Place}
use Rattle.ats_text_check.specs.Strings.{TextPlace}
use Rattle.ats_growth_check.specs.Strings.{Beside}
use Rattle.ats_catalog_check.specs.Strings.{CatalogPlace, over_roots, in_proof}
use Rattle.ats_plan.specs.Files.{Files}
use Rattle.ats_plan.specs.Plan.{Plan, Tries}
use Rattle.ats_console.specs.CollisionLines.{lines_of_collision, lines_of_shard_collision, lines_of_strings, lines_of_pair}
use Rattle.ats_console.specs.Kinds.{IsChecked}
use Rattle.ats_console.specs.declared.stops.Stop.{Stop}
use Rattle.ats_console.specs.declared.stops.Stop.TheVariants.{Collision}

-- the first collision is there and is this one: its two strings differ and have the same digest
pub record Collides {P : Type 0} (H : List ℕ → List ℕ) (first : Option (Difference P)) (collision : Difference P) : Type 0 where
  pub found : first ≡ Some collision
  pub differ : collision.ours ≢ collision.theirs
  pub equal : H collision.ours ≡ H collision.theirs

-- the lines are those of the first collision
abbrev pub StopsByCollision : {P : Type 0} → (List ℕ → List ℕ) → (first : Option (Difference P))
    → (lines_of : Difference P → List ℕ) → Stop → Type 0
StopsByCollision {P} H first lines_of stop = (collision : Difference P) × Collides H first collision
    × (stop ≡ Collision (lines_of collision))

-- there is no collision
abbrev pub finds_none : {P : Type 0} → (List ℕ → List ℕ) → (first : Option (Difference P))
    → (lines_of : Difference P → List ℕ) → Plan Stop → Plan Stop
finds_none H first lines_of rest = Tries (first ≡ None) (StopsByCollision H first lines_of) rest

-- the bytes of the named file, which are at most so many, are accepted as a value that has no collision
pub record IsClear {V P : Type 0} (limit : ℕ) (accepts : List ℕ → V → Type 0) (first_of : V → Option (Difference P))
    (files : Files) (name : List ℕ) : Type 0 where
  pub checked : IsChecked limit accepts files name
  pub none : first_of checked.value ≡ None

-- ---- the lines

-- the place of a collision of a proof, the archive's string there and the proof's
abbrev pub lines_of_proof_collision : Difference Place → List ℕ
lines_of_proof_collision collision = lines_of_collision collision.place collision.ours collision.theirs

abbrev pub text_tree_words : Bool → List ℕ
text_tree_words true = codes "header"
text_tree_words false = codes "texts"

-- those of a file that gives a text
abbrev pub lines_of_text_collision : Difference TextPlace → List ℕ
lines_of_text_collision collision =
    lines_of_strings (text_tree_words collision.place.header) collision.place.depth collision.place.turns collision.ours
    collision.theirs

-- of one that shows a growth: the part of a pair of strings, and the two in their order
abbrev pub lines_of_growth_collision : Difference Beside → List ℕ
lines_of_growth_collision collision =
    lines_of_pair (codes "growth " ++ decimal collision.place.part) (codes "first") collision.theirs (codes "second")
    collision.ours

abbrev pub roots_tree_words : Bool → List ℕ
roots_tree_words true = codes "header"
roots_tree_words false = codes "roots"

-- of the proof of a catalog's answer
abbrev pub lines_at_catalog_place : CatalogPlace → (ours theirs : List ℕ) → List ℕ
lines_at_catalog_place (over_roots place) ours theirs = lines_of_strings (roots_tree_words place.header) place.depth place.turns ours theirs
lines_at_catalog_place (in_proof shard place) ours theirs = lines_of_shard_collision shard place ours theirs

abbrev pub lines_of_catalog_collision : Difference CatalogPlace → List ℕ
lines_of_catalog_collision collision = lines_at_catalog_place collision.place collision.ours collision.theirs

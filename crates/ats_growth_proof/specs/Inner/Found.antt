-- How the audit of a growth finds the first collision: in the headers, and then in the texts.
use Rattle.std.specs.Prelude.{◌≡◌, ℕ, List, ◌++◌, map, reverse, true, false}
use Rattle.std.specs.List.{flat_map}
use Rattle.std.specs.Str.{bytes_eq}
use Rattle.ats_commit.specs.Archive.{Archive}
use Rattle.ats_commit.specs.Root.{header_string}
use Rattle.ats_commit.specs.Inner.Root.{own_header_string}
use Rattle.ats_dict.specs.declared.header.Header.{Header}
use Rattle.ats_lists.specs.declared.format.Format.{Format}
use Rattle.ats_tree.specs.Differences.{Hashed, moved, Difference}
use Rattle.ats_tree.specs.Tree.{tree_of}
use Rattle.ats_growth_check.specs.Shape.{turns}
use Rattle.ats_growth_check.specs.Strings.{Beside, beside, new_strings, old_strings, ranges, range_pairs}
use Rattle.ats_growth_check.specs.Value.{Growth}
use Rattle.ats_growth_proof.specs.Inner.FirstDifference.{strings_of, in_part}
use Rattle.ats_growth_proof.specs.Verdicts.{collision_of}
use Rattle.ats_growth_proof.specs.declared.auditing.Collided.{Collided}
use Rattle.ats_growth_proof.specs.declared.auditing.Found.{Found}

-- the headers have different strings, and these are the two
pub record IsHeaderCollision (H : List ℕ → List ℕ) (part : ℕ) (archive : Archive) (format : Format) (header : Header)
    (c : Collided) : Type 0 where
  pub differs : bytes_eq (own_header_string H archive) (header_string format header) ≡ false
  pub place : c.part ≡ part
  pub first : c.first ≡ header_string format header
  pub second : c.second ≡ own_header_string H archive

-- the pairs of part 3, of part 4 and of part 5
abbrev pub new_pairs : (List ℕ → List ℕ) → Archive → Growth → List (Hashed Beside)
new_pairs H newer g =
    map (moved (beside H 3 (tree_of newer.texts)))
    (new_strings H g.old.texts_root (turns g.old.documents g.new.documents) true (reverse g.digests))

abbrev pub old_pairs : (List ℕ → List ℕ) → Archive → Growth → List (Hashed Beside)
old_pairs H older g =
    map (moved (beside H 4 (tree_of older.texts)))
    (old_strings H g.old.texts_root (turns g.old.documents g.new.documents) true (reverse g.digests))

abbrev pub shared_pairs : (List ℕ → List ℕ) → Archive → Archive → Growth → List (Hashed Beside)
shared_pairs H older newer g =
    flat_map (range_pairs H)
    (ranges (turns g.old.documents g.new.documents) (tree_of older.texts) (tree_of newer.texts))

-- the pairs after those of the headers
abbrev pub texts_pairs : (List ℕ → List ℕ) → Archive → Archive → Growth → List (Hashed Beside)
texts_pairs H older newer g = new_pairs H newer g ++ (old_pairs H older g ++ shared_pairs H older newer g)

-- two strings and their part, as a difference
abbrev pub difference_of : Collided → Difference Beside
difference_of c = collision_of c.part c.first c.second

-- what was found, as a difference
abbrev pub difference_in : Found → Difference Beside
difference_in found = in_part found.part (strings_of found.unlike)

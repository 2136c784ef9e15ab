-- The growth of an archive whose texts are the first of another one's.
use Rattle.std.specs.Prelude.{◌≡◌, ◌≢◌, ◌<◌, ℕ, List, [], ◌∷◌, length, reverse, Bool, true, false, slice_get}
use Rattle.ats_tree.specs.Paths.{Path}
use Rattle.ats_tree.specs.Tree.{Tree, empty, leaf, node, tree_of, digest_of}
use Rattle.ats_commit.specs.Archive.{Archive}
use Rattle.ats_commit.specs.Root.{header_parts}
use Rattle.ats_growth_check.specs.Shape.{turns}
use Rattle.ats_growth_check.specs.Value.{Growth}
use Rattle.ats_growth_proof.specs.declared.growing.GrowFault.{GrowFault}
use Rattle.ats_growth_proof.specs.declared.growing.GrowFault.TheVariants.{Differs, OutOfMemory}

-- The digests that show the growth along these turns, from the last one in the file to the first: beside each turn the
-- digest of the part that the turn leaves out, and at the end that of the part there, unless that is known.
abbrev pub shown : (List ℕ → List ℕ) → Path → Bool → Tree (List ℕ) → List (List ℕ)
shown H [] true tree = []
shown H [] false tree = digest_of H tree ∷ []
shown H (turn ∷ path) known empty = []
shown H (turn ∷ path) known (leaf text) = []
shown H (false ∷ path) known (node left right) = digest_of H right ∷ shown H path known left
shown H (true ∷ path) known (node left right) = digest_of H left ∷ shown H path false right

-- the digests that show that the first m of these texts are the old ones, as the file has them
abbrev pub digests_of : (List ℕ → List ℕ) → ℕ → List (List ℕ) → List (List ℕ)
digests_of H m texts = reverse (shown H (turns m (length texts)) true (tree_of texts))

-- the formats and the headers of both archives, and these digests
abbrev pub honest : (List ℕ → List ℕ) → Archive → Archive → Growth
honest H older newer = record {
  old_format = older.format;
  old = header_parts H older;
  new_format = newer.format;
  new = header_parts H newer;
  digests = digests_of H (length older.texts) newer.texts;
}

-- the new texts do not have this old document with the same text, and they have all before it
pub record IsFirstApart (old new : List (List ℕ)) (doc : ℕ) : Type 0 where
  pub inside : doc < length old
  pub apart : slice_get new doc ≢ slice_get old doc
  pub before : (i : ℕ) → i < doc → slice_get new i ≡ slice_get old i

-- why there is no growth between these texts: the first document that differs, or memory ran out
abbrev pub IsGrowFault : List (List ℕ) → List (List ℕ) → GrowFault → Type 0
IsGrowFault old new (Differs doc) = IsFirstApart old new doc
IsGrowFault old new OutOfMemory = Unit {0}

-- The byte strings that the check of a text hashes, compared with an archive's own.
use Rattle.std.specs.Prelude.{◌≡◌, ◌⊎◌, ℕ, List, ◌∷◌, map, Bool, true, false, slice_get, Option, Some, IsSome}
use Rattle.ats_tree.specs.Differences.{Hashed, moved, Difference, first_collision}
use Rattle.ats_tree.specs.Nodes.{NodeNumbers, by_path, numbers_of}
use Rattle.ats_tree.specs.Paths.{path_of}
use Rattle.ats_tree.specs.Strings.{node_string, node_strings}
use Rattle.ats_commit.specs.Archive.{Archive}
use Rattle.ats_commit.specs.Own.{AreTexts}
use Rattle.ats_commit.specs.Root.{header_parts, header_string, root_of}
use Rattle.ats_text_check.specs.Value.{TextProof}
use Rattle.ats_text_check.specs.Accepts.{shown_text}

-- where a string is hashed: the header, which has depth and turns 0, or a node of the texts tree, by its two numbers
pub record TextPlace : Type 0 where
  pub header : Bool
  pub depth : ℕ
  pub turns : ℕ

abbrev pub header_place : TextPlace
header_place = record { header = true; depth = 0; turns = 0 }

abbrev pub in_texts : NodeNumbers → TextPlace
in_texts at = record { header = false; depth = at.depth; turns = at.turns }

-- the strings: the header's under the tag of the format, then those of the nodes on the path to the text from the root
-- down, and the text's own
abbrev pub text_strings : (List ℕ → List ℕ) → ℕ → TextProof → List (Hashed TextPlace)
text_strings H doc proof =
    record { place = header_place; text = header_string proof.format proof.header }
    ∷ map (moved in_texts) (map (moved numbers_of) (node_strings H proof.header.documents (shown_text doc proof.text) proof.digests))

-- the archive's own string at a place, if there is one
abbrev pub own_text_string : (List ℕ → List ℕ) → Archive → TextPlace → Option (List ℕ)
own_text_string H archive place = elim place.header [
  | true ↦ Some (header_string archive.format (header_parts H archive))
  | false ↦ node_string H archive.texts (by_path (path_of place.depth place.turns))
]

-- the first of the strings that differs from the archive's own at its place and has an equal digest
abbrev pub text_collision : (List ℕ → List ℕ) → Archive → ℕ → TextProof → Option (Difference TextPlace)
text_collision H archive doc proof = first_collision H (own_text_string H archive) (text_strings H doc proof)

-- the text is the archive's text of this document
abbrev pub IsOwnText : Archive → ℕ → TextProof → Type 0
IsOwnText archive doc proof = slice_get archive.texts doc ≡ Some proof.text

-- The headline for a text: for every archive with this root, either the text is the archive's own, or the strings of the
-- check and those of the archive contain two different ones with equal digests.
abbrev pub IsOwnOrCollides : (List ℕ → List ℕ) → List ℕ → ℕ → TextProof → Type 0
IsOwnOrCollides H root doc proof = (archive : Archive) → AreTexts archive.texts → root_of H archive ≡ root
    → IsOwnText archive doc proof ⊎ IsSome (text_collision H archive doc proof)

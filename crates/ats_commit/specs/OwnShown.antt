-- When what a proof shows of a tree is the archive's own.
use Rattle.std.specs.Prelude.{◌≡◌, ◌≤◌, ℕ, List, length, map}
use Rattle.ats_tree.specs.Differences.{Hashed, moved}
use Rattle.ats_tree.specs.Nodes.{NodeNumbers, numbers_of}
use Rattle.ats_tree.specs.OwnShown.{IsOwnShown}
use Rattle.ats_tree.specs.Shown.{Shown}
use Rattle.ats_tree.specs.Strings.{node_strings}
use Rattle.ats_tree.specs.declared.places.Tree.{Tree}
use Rattle.ats_tree.specs.declared.places.Tree.TheVariants.{List as ListOf}
use Rattle.ats_lists.specs.Formats.{first_leaves, prefix_digests, prefix_strings}
use Rattle.ats_lists.specs.Leaf.{leaf_bytes}
use Rattle.ats_postings.specs.Lists.{list}
use Rattle.ats_postings.specs.declared.entry.Entry.{Entry}
use Rattle.ats_lists.specs.declared.format.Format.{Format}
use Rattle.ats_lists.specs.declared.format.Format.TheVariants.{One, Two}
use Rattle.ats_commit.specs.Archive.{Archive}
use Rattle.ats_commit.specs.Ours.{asked_term, own_leaves}

-- these are the first leaves of a list of n entries, at least one, and the digests that they need
pub record IsOwnFront (H : List ℕ → List ℕ) (format : Format) (entries : List Entry) (n : ℕ) (shown : List Shown) (digests : List (List ℕ)) : Type 0 where
  pub number : length entries ≡ n
  pub some : 1 ≤ length shown
  pub within : length shown ≤ n
  pub leaves : shown ≡ first_leaves entries (length shown)
  pub needed : digests ≡ prefix_digests H format entries (length shown)

-- what is shown of a list of n entries is the list's own; of one tree any leaves may be shown, of blocks the first
abbrev pub IsOwnListShown : (List ℕ → List ℕ) → Format → List Entry → ℕ → List Shown → List (List ℕ) → Type 0
IsOwnListShown H One entries n shown digests = IsOwnShown H (map leaf_bytes entries) n shown digests
IsOwnListShown H Two entries n shown digests = IsOwnFront H Two entries n shown digests

-- What a proof in this format shows of a tree of n leaves is the archive's own. A list is hashed by its format, so it is
-- the archive's own only if the formats are equal.
abbrev pub IsOwnTreeShown : (List ℕ → List ℕ) → Archive → List (List ℕ × ℕ) → Format → Tree → ℕ → List Shown → List (List ℕ) → Type 0
IsOwnTreeShown H archive query format (ListOf term) n shown digests =
    (format ≡ archive.format) × IsOwnListShown H format (list archive.texts (asked_term query term)) n shown digests
IsOwnTreeShown H archive query format tree n shown digests = IsOwnShown H (own_leaves H archive query tree) n shown digests

-- the strings that a proof in this format hashes for a tree of n leaves, with their numbers
abbrev pub tree_strings : (List ℕ → List ℕ) → Format → Tree → ℕ → List Shown → List (List ℕ) → List (Hashed NodeNumbers)
tree_strings H format (ListOf term) n shown digests = prefix_strings H format n shown digests
tree_strings H format tree n shown digests = map (moved numbers_of) (node_strings H n shown digests)

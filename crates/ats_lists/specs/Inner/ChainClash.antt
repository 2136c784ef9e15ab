-- Beside specs/ChainClash: what only the functions of this room promise one another.
use Rattle.std.specs.Prelude.{◌≡◌, ℕ, ◌+◌, ◌*◌, ◌<◌, ◌≤◌, List, [], length, drop, nat_le, if◌then◌else◌, slice_index_or, Option, None, IsSome}
use Rattle.ats_tree.specs.Shown.{Shown}
use Rattle.ats_tree.specs.Nodes.{Node, by_path, NodeNumbers}
use Rattle.ats_tree.specs.Paths.{Path, number_of}
use Rattle.ats_tree.specs.Differences.{Hashed, Difference, first_collision}
use Rattle.ats_lists.specs.Chain.{link, chain_digest}
use Rattle.ats_lists.specs.ChainPrefix.{tree_strings}

-- the numbers that a node of the tree of block j has in the list
abbrev pub numbers_in : ℕ → Path → NodeNumbers
numbers_in j path = record { depth = 1 + length path; turns = 64 * j + number_of path }

-- our string at a node of the tree of block j, which is at most 6 deep
abbrev pub ours_in : (NodeNumbers → Option (List ℕ)) → ℕ → Node → Option (List ℕ)
ours_in ours j (by_path path) = if nat_le (length path) 6 then ours (numbers_in j path) else None

-- the first collision in the tree of block j
abbrev pub tree_collision : (List ℕ → List ℕ) → (NodeNumbers → Option (List ℕ)) → ℕ → List Shown → List (List ℕ) → ℕ → Option (Difference NodeNumbers)
tree_collision H ours f shown digests j = first_collision H ours (tree_strings H f shown digests j)

-- c is the first collision in the trees of the first n blocks, in block b; if there is none, b is at least n
pub record IsFirstInTrees (H : List ℕ → List ℕ) (ours : NodeNumbers → Option (List ℕ)) (f : ℕ) (shown : List Shown) (digests : List (List ℕ))
    (n b : ℕ) (c : Option (Difference NodeNumbers)) : Type 0 where
  pub before : (i : ℕ) → i < b → i < n → tree_collision H ours f shown digests i ≡ None
  pub there : b < n → IsSome c × (c ≡ tree_collision H ours f shown digests b)
  pub none : n ≤ b → c ≡ None

-- the string of block i of those with these roots, if `next` is the digest after the last of them
abbrev pub link_at : (List ℕ → List ℕ) → List (List ℕ) → List ℕ → ℕ → Hashed NodeNumbers
link_at H roots next i = record {
  place = record { depth = 0; turns = 64 * i };
  text = link (slice_index_or roots i []) (chain_digest H (drop (i + 1) roots) next);
}

-- Nodes of trees, and the depth and the turns by which a node is named.
use Rattle.std.specs.Prelude.{◌≡◌, ℕ, ◌^◌, ◌<◌, length}
use Rattle.ats_tree.specs.Paths.{Path, path_of, number_of}

-- a node of one tree, by the turns from its root
pub data Node : Type 0 where
  by_path : Path → Node

-- how many turns there are from the root
abbrev pub depth_of : Node → ℕ
depth_of (by_path path) = length path

-- these turns as one number: its lowest binary digits, highest first, 0 for left and 1 for right
abbrev pub turns_of : Node → ℕ
turns_of (by_path path) = number_of path

-- the lowest `depth` digits of `turns` are the turns from the root, and `turns` has no digit further up
abbrev pub IsNodeAt : Node → ℕ → ℕ → Type 0
IsNodeAt (by_path path) depth turns = (path_of depth turns ≡ path) × (turns < 2 ^ depth)

-- the two numbers by which a node is named, or another string that is hashed beside the nodes
pub record NodeNumbers : Type 0 where
  pub depth : ℕ
  pub turns : ℕ

-- the numbers of a node
abbrev pub numbers_of : Node → NodeNumbers
numbers_of node = record { depth = depth_of node; turns = turns_of node }

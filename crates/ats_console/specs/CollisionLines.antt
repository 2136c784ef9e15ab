-- The lines of two different strings with the same digest.
use Rattle.std.specs.Prelude.{◌++◌, ℕ, List, codes, decimal}
use Rattle.hex.specs.Hex.{encode_lower}
use Rattle.ats_tree.specs.declared.places.Place.{Place}
use Rattle.ats_tree.specs.declared.places.Tree.{Tree}
use Rattle.ats_tree.specs.declared.places.Tree.TheVariants.{Header, Dictionary, List as ListOf, Documents, Terms}

abbrev pub tree_words : Tree → List ℕ
tree_words Header = codes "header"
tree_words Dictionary = codes "dictionary"
tree_words (ListOf term) = codes "list " ++ decimal term
tree_words Documents = codes "documents"
tree_words (Terms doc) = codes "terms " ++ decimal doc

-- the place of two strings, and each of them after its name, a line each; strings as lower-case hexadecimal digits
abbrev pub lines_of_pair : (place : List ℕ) → (name text other_name other : List ℕ) → List ℕ
lines_of_pair place name text other_name other =
    codes "collision " ++ (place
    ++ (codes "\n" ++ (name ++ (codes " " ++ (encode_lower text
    ++ (codes "\n" ++ (other_name ++ (codes " " ++ (encode_lower other ++ codes "\n")))))))))

-- the place by the words of its tree and its two numbers, the archive's own string, and the string that was checked
abbrev pub lines_of_strings : (tree : List ℕ) → (depth turns : ℕ) → (ours theirs : List ℕ) → List ℕ
lines_of_strings tree depth turns ours theirs =
    lines_of_pair (tree ++ (codes " depth " ++ (decimal depth ++ (codes " turns " ++ decimal turns))))
    (codes "ours") ours (codes "theirs") theirs

-- those of a proof's string
abbrev pub lines_of_collision : Place → List ℕ → List ℕ → List ℕ
lines_of_collision place ours theirs = lines_of_strings (tree_words place.tree) place.depth place.turns ours theirs

-- those of a string of the proof of a shard, with the shard's number before the tree
abbrev pub lines_of_shard_collision : ℕ → Place → List ℕ → List ℕ → List ℕ
lines_of_shard_collision shard place ours theirs =
    lines_of_strings (codes "shard " ++ (decimal shard ++ (codes " " ++ tree_words place.tree))) place.depth place.turns ours theirs

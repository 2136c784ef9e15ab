-- The bytes of a string of the texts tree.
use Rattle.std.specs.Prelude.{ℕ, List, ◌∷◌, ◌++◌}
use Rattle.ats_text_proof.specs.declared.own_texts.TextString.{TextString}
use Rattle.ats_text_proof.specs.declared.own_texts.TextString.TheVariants.{Node, Text}

-- a node's string has the tag 1 in front of two digests, and a text's has the tag 0
abbrev pub bytes_of : TextString → List ℕ
bytes_of (Node parts) = 1 ∷ parts.left ++ parts.right
bytes_of (Text front back) = 0 ∷ front.now ++ back.now

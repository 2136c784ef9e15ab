-- Where the old leaves end in a tree that has grown (RFC 6962, section 2.1.2).
use Rattle.std.specs.Prelude.{ℕ, zero, suc, ◌+◌, ◌-◌, ◌^◌, [], ◌∷◌, Bool, true, false, nat_le, if◌then◌else◌}
use Rattle.ats_tree.specs.Paths.{Path}

-- In a part of n leaves, at most 2 ^ h, of which the first m are old: the turns from its root to the part that the last
-- old leaf ends. A part of more than 2 ^ h leaves, and at most 2 ^ (h + 1), is cut after the first 2 ^ h.
unfoldable pub turns_within : (h m n : ℕ) → Path
turns_within zero m n = []
turns_within (suc h) m n =
    if nat_le n (2 ^ h)
    then turns_within h m n
    else if nat_le n m
    then []
    else if nat_le m (2 ^ h)
    then false ∷ turns_within h m (2 ^ h)
    else true ∷ turns_within h (m - 2 ^ h) (n - 2 ^ h)

-- The same in the tree of n leaves. After a left turn all leaves of the right part are fresh, and after a right turn
-- all leaves of the left part are old. At the end of the turns is the largest part that ends with the last old leaf and
-- has no fresh one.
unfoldable pub turns : (m n : ℕ) → Path
turns m n = turns_within n m n

-- How many digests show the growth along these turns: one for each turn, and one for the part at their end, unless that
-- is the whole old tree, whose root is known.
abbrev pub need : Path → Bool → ℕ
need [] true = 0
need [] false = 1
need (false ∷ path) known = 1 + need path known
need (true ∷ path) known = 1 + need path false

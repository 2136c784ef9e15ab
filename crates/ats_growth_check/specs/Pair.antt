-- The roots that the digests of a growth give for the old tree and for the new one (RFC 6962, section 2.1.2).
use Rattle.std.specs.Prelude.{ℕ, List, [], ◌∷◌, ◌++◌, drop, Bool, true, false}
use Rattle.ats_tree.specs.Paths.{Path}
use Rattle.ats_tree.specs.Rebuild.{first_digest}

-- a digest of a part of the old tree, and one of the part of the new tree that has grown from it
pub record Roots : Type 0 where
  pub old : List ℕ
  pub new : List ℕ

-- the roots if the part of the new tree has a right part of fresh leaves only
abbrev pub grown_by : (List ℕ → List ℕ) → List ℕ → Roots → Roots
grown_by H right left = record { old = left.old; new = H (1 ∷ left.new ++ right) }

-- the roots if both parts have the same left part of old leaves
abbrev pub joined_to : (List ℕ → List ℕ) → List ℕ → Roots → Roots
joined_to H left right = record { old = H (1 ∷ left ++ right.old); new = H (1 ∷ left ++ right.new) }

-- The roots that these digests give along the turns, if `root` is that of the old tree. The digests stand from the last
-- one in the file to the first: the digest beside the root of the new tree comes first, and that of the part at the end
-- of the turns last. If that part is the whole old tree, it has none.
abbrev pub roots : (List ℕ → List ℕ) → List ℕ → Path → Bool → List (List ℕ) → Roots
roots H root [] true digests = record { old = root; new = root }
roots H root [] false digests = record { old = first_digest digests; new = first_digest digests }
roots H root (false ∷ path) known digests = grown_by H (first_digest digests) (roots H root path known (drop 1 digests))
roots H root (true ∷ path) known digests = joined_to H (first_digest digests) (roots H root path false (drop 1 digests))

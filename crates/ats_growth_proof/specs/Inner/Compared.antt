-- What the comparison of a growth with two archives, and of the texts of these, finds.
use Rattle.std.specs.Prelude.{◌≡◌, ℕ, List, take, reverse, Bool, Option, None, option_map}
use Rattle.ats_tree.specs.Paths.{Path}
use Rattle.ats_tree.specs.Strings.{string_at}
use Rattle.ats_tree.specs.Tree.{Tree, digest_of}
use Rattle.ats_growth_check.specs.Inner.Paired.{ArePaired}
use Rattle.ats_growth_check.specs.Shape.{need}
use Rattle.ats_growth_check.specs.Strings.{old_strings, new_strings, all_strings}
use Rattle.ats_growth_proof.specs.Inner.FirstDifference.{Two, first_unlike, unlike_or, strings_of}
use Rattle.ats_growth_proof.specs.declared.joining.Side.{Side}
use Rattle.ats_growth_proof.specs.declared.joining.Compared.{Compared}

-- the digests that the growth takes along these turns, from the last one to the first
abbrev pub taken : Path → Bool → List (List ℕ) → List (List ℕ)
taken path known digests = reverse (take (need path known) digests)

-- a node of one side, with these two strings: their digests, and what differs there or below
pub record IsJoined (H : List ℕ → List ℕ) (first second : List ℕ) (below : Option Two) (side : Side) : Type 0 where
  pub theirs : side.theirs ≡ H first
  pub own : side.own ≡ H second
  pub unlike : option_map strings_of side.unlike ≡ unlike_or first second below

-- one side at the end of the turns, where nothing is hashed for a root: this digest, and that of the archive's part
pub record IsEnd (H : List ℕ → List ℕ) (digest : List ℕ) (tree : Tree (List ℕ)) (side : Side) : Type 0 where
  pub theirs : side.theirs ≡ digest
  pub own : side.own ≡ digest_of H tree
  pub unlike : side.unlike ≡ None

-- Along the turns the first of the digests give the roots of both sides, and the digests after them are left. The own
-- digests are those of the parts of both archives. Each side has the first of its strings that differs from the archive's.
pub record AreCompared (H : List ℕ → List ℕ) (root : List ℕ) (path : Path) (known : Bool)
    (digests : List (List ℕ)) (t u : Tree (List ℕ)) (c : Compared) (left : List (List ℕ)) : Type 0 where
  pub theirs : ArePaired H root path known digests c.old.theirs c.new.theirs left
  pub old_own : c.old.own ≡ digest_of H t
  pub new_own : c.new.own ≡ digest_of H u
  pub old_unlike : option_map strings_of c.old.unlike
      ≡ first_unlike (string_at H t) (old_strings H root path known (taken path known digests))
  pub new_unlike : option_map strings_of c.new.unlike
      ≡ first_unlike (string_at H u) (new_strings H root path known (taken path known digests))

-- the digests of a range in both archives, and its first old string that differs from the new one
pub record IsRange (H : List ℕ → List ℕ) (t u : Tree (List ℕ)) (side : Side) : Type 0 where
  pub theirs : side.theirs ≡ digest_of H t
  pub own : side.own ≡ digest_of H u
  pub unlike : option_map strings_of side.unlike ≡ first_unlike (string_at H u) (all_strings H t)

-- Beside specs/Honest: what only the functions of this room promise one another.
use Rattle.std.specs.Prelude.{ℕ, List, reverse, Bool}
use Rattle.std.specs.List.{concat}
use Rattle.ats_tree.specs.Paths.{Path}
use Rattle.ats_tree.specs.Tree.{Tree}
use Rattle.ats_growth_proof.specs.Honest.{shown}

-- these digests, joined
abbrev pub digest_bytes : (List ℕ → List ℕ) → Path → Bool → Tree (List ℕ) → List ℕ
digest_bytes H path known tree = concat (reverse (shown H path known tree))

-- The place of a term among the leaves of a document's terms, or the two that it lies between.
use Rattle.std.specs.Prelude.{ℕ, List, length}
use Rattle.ats_terms.specs.Found as terms
use Rattle.ats_doctree.specs.Sentinels.{term_at}
use Rattle.ats_doctree.specs.declared.spot.Spot.{Spot}
use Rattle.ats_doctree.specs.declared.spot.Spot.TheVariants.{At, Between}

abbrev pub StandsAt : List (List ℕ × ℕ) → List ℕ → ℕ → Type 0
StandsAt items = terms.StandsAt (term_at items) (length items)

abbrev pub LiesBetween : List (List ℕ × ℕ) → List ℕ → ℕ → Type 0
LiesBetween items = terms.LiesBetween (term_at items) (length items)

abbrev pub IsSpot : List (List ℕ × ℕ) → List ℕ → Spot → Type 0
IsSpot items term (At p) = StandsAt items term p
IsSpot items term (Between p) = LiesBetween items term p

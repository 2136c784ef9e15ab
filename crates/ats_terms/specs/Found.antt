-- The place of a term among n terms in byte order, or the two that it lies between. Positions run from 0 to n + 1: the
-- low sentinel, the terms in their order, the high sentinel. `at` gives the term of each position.
use Rattle.std.specs.Prelude.{◌≡◌, ◌<◌, ◌≤◌, ◌+◌, ℕ, List, [], ◌∷◌}
use Rattle.ats_terms.specs.Order.{IsBelow}
use Rattle.ats_terms.specs.declared.spot.Spot.{Spot}
use Rattle.ats_terms.specs.declared.spot.Spot.TheVariants.{At, Between}

-- the terms rise strictly from position to position, from the empty one up to the one byte 0xFF
pub record RiseBetweenSentinels (at : ℕ → List ℕ) (n : ℕ) : Type 0 where
  pub low : at 0 ≡ []
  pub high : at (n + 1) ≡ 255 ∷ []
  pub rises : (p q : ℕ) → p < q → q < n + 2 → IsBelow (at p) (at q)

-- the term is at this position, which is not a sentinel's
pub record StandsAt (at : ℕ → List ℕ) (n : ℕ) (term : List ℕ) (p : ℕ) : Type 0 where
  pub some : 1 ≤ p
  pub within : p ≤ n
  pub same : at p ≡ term

-- the term lies strictly between the terms of this position and the next, and is at no position
pub record LiesBetween (at : ℕ → List ℕ) (n : ℕ) (term : List ℕ) (p : ℕ) : Type 0 where
  pub within : p ≤ n
  pub above : IsBelow (at p) term
  pub below : IsBelow term (at (p + 1))
  pub absent : (q : ℕ) → ¬ StandsAt at n term q

abbrev pub IsSpot : (ℕ → List ℕ) → ℕ → List ℕ → Spot → Type 0
IsSpot at n term (At p) = StandsAt at n term p
IsSpot at n term (Between p) = LiesBetween at n term p

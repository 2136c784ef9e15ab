-- The shape of the distinct terms of a list, each with how often it occurs there.
use Rattle.std.specs.Prelude.{◌≤◌, ℕ, List}
use Rattle.std.specs.List.{All}
use Rattle.ats_terms.specs.Terms.{IsTerm}
use Rattle.ats_terms.specs.Query.{Rises}

-- terms that rise strictly in byte order, each at least once
pub record AreDistinct (pairs : List (List ℕ × ℕ)) : Type 0 where
  pub rises : Rises pairs
  pub terms : All (λ pair. IsTerm pair.0) pairs
  pub some : All (λ pair. 1 ≤ pair.1) pairs

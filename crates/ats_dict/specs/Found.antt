-- The place of a term among the leaves of a dictionary, or the two that it lies between.
use Rattle.std.specs.Prelude.{ℕ, List, length}
use Rattle.ats_terms.specs.Found as terms
use Rattle.ats_dict.specs.Entry.{DictEntry}
use Rattle.ats_dict.specs.Dictionary.{term_at}
use Rattle.ats_dict.specs.declared.spot.Spot.{Spot}
use Rattle.ats_dict.specs.declared.spot.Spot.TheVariants.{At, Between}

abbrev pub StandsAt : List DictEntry → List ℕ → ℕ → Type 0
StandsAt entries = terms.StandsAt (term_at entries) (length entries)

abbrev pub LiesBetween : List DictEntry → List ℕ → ℕ → Type 0
LiesBetween entries = terms.LiesBetween (term_at entries) (length entries)

abbrev pub IsSpot : List DictEntry → List ℕ → Spot → Type 0
IsSpot entries term (At p) = StandsAt entries term p
IsSpot entries term (Between p) = LiesBetween entries term p

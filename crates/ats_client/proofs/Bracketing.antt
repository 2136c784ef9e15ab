-- How the brackets of a proof are formed.
use Rattle.std.proofs.Common.{◌≡◌, ℕ, List, Option, Some, None, refl}
use Rattle.ats_bound.specs.Cut.{ShownLane}
use Rattle.ats_proof.specs.Value.{Documents}
use Rattle.ats_client.specs.Bracketing.{bounds_in}

-- a bracket is that of its document
pub own_doc : (met : List ℕ) (docs : Option Documents) (lanes : List ShownLane) (doc : ℕ) → (bounds_in met docs lanes doc).doc ≡ doc
own_doc met None lanes doc = refl
own_doc met (Some docs) lanes doc = refl

use Rattle.std.proofs.Common.{◌≡◌, ℕ, ◌<◌, slice_get}
use Rattle.ats_growth_proof.proofs.growing.first_apart.Given as goal

abbrev pub invariant-loop-doc : goal.invariant-loop-doc
invariant-loop-doc l = (i : ℕ) → i < l.doc → slice_get l.new i ≡ slice_get l.old i

-- Beside specs/Steps: what only the functions of this room promise one another.
use Rattle.std.specs.Prelude.{ℕ, List}
use Rattle.ats_proof.specs.Value.{Proof}
use Rattle.ats_client.specs.Bytes.{IsAcceptedBytes}
use Rattle.ats_plan.specs.Plan.{Plan, Gets}
use Rattle.ats_console.specs.declared.stops.Stop.{Stop}
use Rattle.ats_console.specs.Steps.{RejectsBytes}

-- the proof that the bytes spell, which is accepted
abbrev pub checks : (List ℕ → List ℕ) → (root : List ℕ) → List (List ℕ × ℕ) → (r : ℕ) → (bytes : List ℕ)
    → (Proof → Plan Stop) → Plan Stop
checks H root query r bytes rest =
    Gets Proof (IsAcceptedBytes H root query r bytes) (RejectsBytes H root query r bytes) rest

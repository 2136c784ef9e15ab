-- Beside specs/Audited: what only the functions of this room promise one another.
use Rattle.std.specs.Prelude.{◌≡◌, ◌⊎◌, ℕ, List}
use Rattle.ats_console.specs.declared.stops.Stop.{Stop}
use Rattle.ats_console.specs.declared.stops.Stop.TheVariants.{Memory}
use Rattle.ats_auditors.specs.Collided.{StopsByCollision}
use Rattle.ats_auditors.specs.Audited.{Audit}

-- why bytes are not found right: memory ran out, or they are rejected, or what they say has a collision
abbrev pub AuditStop : {V P : Type 0} → (List ℕ → List ℕ) → Audit V P → (bytes : List ℕ) → Stop → Type 0
AuditStop {V} H audit bytes stop = (stop ≡ Memory) ⊎ (audit.kind.rejects bytes stop
    ⊎ ((v : V) × audit.kind.accepted bytes v × StopsByCollision H (audit.first v) audit.lines_of stop))

-- How an audit stops at the check of its file, or at its collision, and how it is done.
use Rattle.std.proofs.Common.{◌≡◌, ℕ, List, None, Some, Result, Ok, Err, inl, inr}
use Rattle.std.specs.Prelude.{IfOk, IfErr}
use Rattle.ats_base.specs.Outside.{ShelfTold}
use Rattle.ats_tree.specs.Differences.{Difference}
use Rattle.ats_tree.proofs.Public.{AreColliding}
use Rattle.ats_plan.specs.Files.{Files}
use Rattle.ats_plan.specs.Plan.{Plan, Finishes, Gets}
use Rattle.ats_plan.specs.Runs.{IsDone, IsStopped}
use Rattle.ats_plan.proofs.Public.{Leads, leads_get, done_get, done_try, done_end}
use Rattle.ats_console.specs.declared.stops.Stop.{Stop}
use Rattle.ats_console.specs.declared.stops.Stop.TheVariants.{Shelf, Memory, Collision}
use Rattle.ats_console.proofs.Public.{memory_stops, get_stops, try_stops}
use Rattle.ats_auditors.specs.Collided.{finds_none}
use Rattle.ats_auditors.specs.Audited.{Audit}
use Rattle.ats_auditors.specs.Inner.Audited.{AuditStop}

module _ {V P : Type 0} (H : List ℕ → List ℕ) (audit : Audit V P) (bytes : List ℕ) where
  -- the first collision of what was accepted stops it by its lines
  pub collision_stops : (v : V) (collision : Difference P) (stop : Stop) → audit.kind.accepted bytes v → audit.first v ≡ Some collision → AreColliding H collision
      → stop ≡ Collision (audit.lines_of collision) → AuditStop H audit bytes stop
  collision_stops v collision stop accepted found two is = inr (inr (v, accepted, (collision, record { found = found; differ = two.0; equal = two.1 }, is)))

  module _ {plan : Plan Stop} {before mid : ShelfTold} where
    -- bytes that were refused, or have a collision
    pub audit_stops : {rest : V → Plan Stop}
        → Leads Shelf Memory plan before (Gets V (audit.kind.accepted bytes) (audit.kind.rejects bytes) (λ v. finds_none H (audit.first v) audit.lines_of (rest v))) mid
        → {T : Type 0} (result : Result T Stop) → IfErr result (AuditStop H audit bytes) → IfErr result (IsStopped Shelf Memory plan before mid)
    audit_stops leads (Ok text) stops = tt
    audit_stops leads (Err stop) (inl memory) = memory_stops leads memory
    audit_stops leads (Err stop) (inr (inl rejects)) = get_stops leads (inr rejects)
    audit_stops leads (Err stop) (inr (inr (v, accepted, collides))) = try_stops (leads_get v leads accepted) (inr collides)

    -- bytes that were accepted and have none, from which follows what the command says of its end
    pub audit_end : (says : Files → List ℕ → Type 0)
        → Leads Shelf Memory plan before (Gets V (audit.kind.accepted bytes) (audit.kind.rejects bytes) (λ v. finds_none H (audit.first v) audit.lines_of (Finishes says))) mid
        → {T : Type 0} {told : T → Type 0} (bytes_of : T → List ℕ) (result : Result T Stop) → IfOk result told
        → ((text : T) → told text → (v : V) × audit.kind.accepted bytes v × (audit.first v ≡ None) × says mid.files (bytes_of text))
        → IfOk result (λ text. IsDone plan before mid (bytes_of text))
    audit_end says leads bytes_of (Ok text) is end =
        let found = end text is in
        leads.does mid (bytes_of text) (done_get found.0 found.1 (done_try found.2 (done_end found.3)))
    audit_end says leads bytes_of (Err stop) is end = tt

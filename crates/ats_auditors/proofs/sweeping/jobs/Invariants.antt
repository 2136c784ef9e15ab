use Rattle.std.proofs.Common.{◌≡◌, drop, length}
use Rattle.std.specs.Vec.Iter.{into_iter_items}
use Rattle.ats_auditors.proofs.JobSteps.{AreFirstJobs}
use Rattle.ats_auditors.proofs.sweeping.jobs.Given as goal

-- the jobs so far, and the entries that are left
abbrev pub invariant-loop-entry : goal.invariant-loop-entry
invariant-loop-entry l = AreFirstJobs l.fn.entries.items l.proofs l.jobs.items
    × (drop (length l.jobs.items) l.fn.entries.items ≡ into_iter_items l.entry-iterator)

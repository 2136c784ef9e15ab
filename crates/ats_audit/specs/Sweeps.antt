-- What a sweep finds of each of its jobs.
use Rattle.std.specs.Prelude.{ℕ, List}
use Rattle.ats_commit.specs.Archive.{Archive}
use Rattle.ats_audit.specs.Verdicts.{IsVerdict}
use Rattle.ats_audit.specs.declared.auditing.Verdict.{Verdict}
use Rattle.ats_audit.specs.declared.sweeping.Job.{Job}

-- what the audit of a job's bytes finds
abbrev pub IsVerdictOf : (List ℕ → List ℕ) → Archive → Job → Verdict → Type 0
IsVerdictOf H archive job verdict = IsVerdict H archive job.query job.top job.bytes.now verdict

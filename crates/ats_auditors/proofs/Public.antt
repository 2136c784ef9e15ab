-- What other rooms may cite of the proofs of this one. All other files here are private.

-- the plan of each command goes one way at most, and stops none for its words
pub use Rattle.ats_auditors.proofs.Sound.{auditor_sound}
-- the findings for the proofs of a list are one list
pub use Rattle.ats_auditors.proofs.OneFinding.{one_findings}

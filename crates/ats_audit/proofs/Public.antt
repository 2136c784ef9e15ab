-- What other rooms may cite of the proofs of this one. All other files here are private.

-- if a proof has right rows or a collision, and it has no first collision, its rows are right
pub use Rattle.ats_audit.proofs.Told.{right_rows}
-- for each archive with the root, an accepted proof has right rows or its audit reports a collision
pub use Rattle.ats_audit.proofs.Told.{told}

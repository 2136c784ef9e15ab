-- What other rooms may cite of the proofs of this one. All other files here are private.

-- bytes are refused by one rule
pub use Rattle.ats_all_check.proofs.Refusals.{one_of_bytes}
-- bytes that are accepted are not refused
pub use Rattle.ats_all_check.proofs.Refusals.{not_refused}
-- for each archive with the root of an accepted proof, the documents are all that have every term, or there is a collision
pub use Rattle.ats_all_check.proofs.Soundness.{both_or_collide}

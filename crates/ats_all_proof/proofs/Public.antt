-- What other rooms may cite of the proofs of this one. All other files here are private.

-- the cut of the proof shows of each list at least one entry, and at most all
pub use Rattle.ats_all_proof.proofs.Cuts.{both_is_cut}
-- the place of a list that a cut shows whole
pub use Rattle.ats_all_proof.proofs.Cuts.{ShowsWhole}
-- if all terms of a query are present, and it has a term, the cut of the proof shows some list whole
pub use Rattle.ats_all_proof.proofs.Cuts.{both_shows_whole}
-- what says that a list which the cut of the proof shows whole is seen as whole by the check
pub use Rattle.ats_all_proof.proofs.Accepted.{SeesWhole}
-- the proof of a query with a term is accepted, if the rules of what it shows hold and whole lists are seen
pub use Rattle.ats_all_proof.proofs.Accepted.{both_accepted}
-- for all archives with the root the shown documents are all with every term, or each verdict on the bytes tells a collision
pub use Rattle.ats_all_proof.proofs.Told.{told}

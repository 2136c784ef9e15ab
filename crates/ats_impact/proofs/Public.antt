-- What other rooms may cite of the proofs of this one. All other files here are private.

-- the quotient in an impact is below 2200, so that an impact is at most 2200
pub use Rattle.ats_impact.proofs.Tables.{impact_small}
-- a term occurs in a list of terms at most as often as the list has elements
pub use Rattle.ats_impact.proofs.Occurrences.{occurs_few}

-- What other rooms may cite of the proofs of this one. All other files here are private.

-- two growths that the same bytes spell are equal
pub use Rattle.ats_growth_check.proofs.OneGrowth.{one_growth}
-- two spellings of one growth are the same bytes
pub use Rattle.ats_growth_check.proofs.OneGrowth.{one_join}
-- a growth that is accepted under two roots is not refused under them
pub use Rattle.ats_growth_check.proofs.Exactness.{accepted_not_refused}
-- a growth is refused by one rule
pub use Rattle.ats_growth_check.proofs.Exactness.{one_refusal}
-- the numbers, roots and digests of a growth that bytes spell are in their ranges
pub use Rattle.ats_growth_check.proofs.InRange.{growth_range}
-- a growth in its ranges is spelled by the join of its fields
pub use Rattle.ats_growth_check.proofs.Spelled.{spells}
-- what an accepted growth says of all archives with its two roots
pub use Rattle.ats_growth_check.proofs.Soundness.{grown_or_collides}
-- each pair of strings of an accepted growth is equal, so that the new archive has grown, or the first that is not collides
pub use Rattle.ats_growth_check.proofs.Soundness.{growth-binds}
-- the turns to the end of the old leaves, with the cuts on the way
pub use Rattle.ats_growth_check.proofs.Leads.{leads, turns-end, turns-left, turns-right}
-- how many turns and digests there are at most
pub use Rattle.ats_growth_check.proofs.Leads.{depth, need-turns}
-- the turns, the digests and the roots at a cut
pub use Rattle.ats_growth_check.proofs.PairLemmas.{cut-left, cut-right, need-left, need-right, one-left, paired-left, paired-right}
-- the parts of the old tree and of the new one along the turns
pub use Rattle.ats_growth_check.proofs.Fits.{Shares, shares}
-- the root is known to be that of the old tree
pub use Rattle.ats_growth_check.proofs.SharedParts.{IsKnown}
-- digests of 32 bytes
pub use Rattle.ats_growth_check.proofs.Sides.{AreSized}
pub use Rattle.ats_growth_check.proofs.Trees.{length-digest}
-- lists of digests in the other direction
pub use Rattle.ats_growth_check.proofs.Digests.{reverse-first, All-reverse, one-more}
-- what follows from a fact that holds if there is no error
pub use Rattle.ats_growth_check.proofs.Results.{on-ok}

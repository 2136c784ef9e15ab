-- What other rooms may cite of the proofs of this one. All other files here are private.

-- the honest growth of archives whose texts allow it is accepted under their roots
pub use Rattle.ats_growth_proof.proofs.Completeness.{honest_accepted}
-- the honest growth of archives within the limits is in range
pub use Rattle.ats_growth_proof.proofs.Made.{honest_in_range}
-- old texts of which one differs, or is missing, are not the first of the new ones
pub use Rattle.ats_growth_proof.proofs.Prefixes.{not_prefix}
-- for all archives with the two roots nothing was withdrawn, or each verdict on an accepted growth tells a collision
pub use Rattle.ats_growth_proof.proofs.Verdicts.{told}
-- the first collision is two different strings with equal digests
pub use Rattle.ats_growth_proof.proofs.Verdicts.{collision-collides}
-- the honest growth of archives whose texts allow it has no collision with them
pub use Rattle.ats_growth_proof.proofs.HonestStrings.{honest-none}
-- the only verdict on such a growth is that it is right
pub use Rattle.ats_growth_proof.proofs.Verdicts.{honest-right}
-- without a collision with two archives an accepted growth says what they are
pub use Rattle.ats_growth_proof.proofs.Finding.{grown_or_none}

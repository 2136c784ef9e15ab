-- What other rooms may cite of the proofs of this one. All other files here are private.

-- what an archive gives is in its ranges, is accepted, has no collision and is the archive's own text
pub use Rattle.ats_text_proof.proofs.Given.{given-in_range, given-accepted, given-none, given-own}
-- the first collision of a text is two different strings with equal digests
pub use Rattle.ats_text_proof.proofs.Verdicts.{collision-collides}
-- for each archive with the root, an accepted text is the archive's own, or each verdict tells a collision
pub use Rattle.ats_text_proof.proofs.Verdicts.{told}
-- the only verdict on what an archive gives is that it is right
pub use Rattle.ats_text_proof.proofs.Verdicts.{given-right}

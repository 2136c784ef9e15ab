-- What other rooms may cite of the proofs of this one. All other files here are private.

-- the plan of each command goes one way at most, and stops none for its words
pub use Rattle.ats_makers.proofs.Sound.{maker_sound}
-- a proof of all documents with every term that is made is not too long
pub use Rattle.ats_makers.proofs.OneBoth.{both_short}

-- What other rooms may cite of the proofs of this one. All other files here are private.

-- the plan of each command goes one way at most, and stops none for its words
pub use Rattle.ats_checkers.proofs.Sound.{checker_sound}

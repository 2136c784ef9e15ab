-- What other rooms may cite of the proofs of this one. All other files here are private.

-- questions over links with the same bytes to come have one result, if the bytes decide both results
pub use Rattle.ats_wire.proofs.OneReply.{asked_alike}
-- what holds for a result in case of an error holds if the result is an error
pub use Rattle.ats_wire.proofs.Turns.{err_part}
-- what holds for a result in case of success holds if the result is no error
pub use Rattle.ats_wire.proofs.Turns.{ok_part}

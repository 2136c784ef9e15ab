-- What other rooms may cite of the proofs of this one. All other files here are private.

-- bytes that some fields spell in a schema have no fault in that schema
pub use Rattle.ats_grammar.proofs.Fronts.{no_fault}
-- two faults of the same bytes in one schema are equal
pub use Rattle.ats_grammar.proofs.Fronts.{one_fault}
-- two lists of fields that spell the same bytes in one schema are equal
pub use Rattle.ats_grammar.proofs.Fronts.{one_spelling}
-- bytes added to a whole spelling, within the length limit, are a trailing fault at its end
pub use Rattle.ats_grammar.proofs.Fronts.{trailing}
-- a first fault other than missing bytes stays when bytes are added within the length limit
pub use Rattle.ats_grammar.proofs.Staying.{fault_stays}
-- the encoding of a number in k bytes has length k
pub use Rattle.ats_grammar.proofs.Spelling.{length-spelled}
-- the encoding of a number in one or more bytes decodes to it, even if the first byte overflows
pub use Rattle.ats_grammar.proofs.Spelling.{number-spelled}
-- bytes are the encoding of the number that they are
pub use Rattle.ats_grammar.proofs.Spelling.{spelled-number}
-- if a result is Ok only of a spelling and Err only with the fault, it is Err with each fault of the bytes
pub use Rattle.ats_grammar.proofs.Fronts.{refuses}

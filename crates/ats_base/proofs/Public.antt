-- What other rooms may cite of the proofs of this one. All other files here are private.

-- calls that satisfy a condition also satisfy each weaker condition
pub use Rattle.ats_base.proofs.Asking.{asked_as}
-- if there was no call, each condition that the empty list of calls satisfies holds for the calls
pub use Rattle.ats_base.proofs.Asking.{asked_none}
-- two successive runs of calls are one run, which meets what follows from the conditions of both
pub use Rattle.ats_base.proofs.Asking.{asked_then}
-- over a link whose traffic did not change, no bytes were read and none written
pub use Rattle.ats_base.proofs.Exchanges.{exchanged_none}
-- two successive exchanges over a link are one exchange of the joined bytes
pub use Rattle.ats_base.proofs.Exchanges.{exchanged_then}
-- what a group of rules must satisfy for there to be one first failure, and that each of some groups does
pub use Rattle.ats_base.proofs.Rules.{IsExact, AreExact}
-- the group of one rule is such a group
pub use Rattle.ats_base.proofs.Rules.{one_way}
-- a group of rules that fails in one way only is such a group
pub use Rattle.ats_base.proofs.Rules.{fails_by}
-- if a group fails first, not all hold
pub use Rattle.ats_base.proofs.Rules.{not_all_hold}
-- there is one first failure of groups
pub use Rattle.ats_base.proofs.Rules.{one_first}
-- if each group holds or fails, all hold or one fails first
pub use Rattle.ats_base.proofs.Rules.{AreTried, hold_or_first}
-- what all elements satisfy, one in the middle satisfies
pub use Rattle.ats_base.proofs.FirstOf.{all_middle}
-- two fronts of a list that satisfy a rule, each before an element that breaks it whatever follows, are the same
pub use Rattle.ats_base.proofs.FirstOf.{one_front}
-- if an element breaks its rules first, not all satisfy theirs
pub use Rattle.ats_base.proofs.FirstOf.{Breaks, not_first_of}
-- there is one first element that breaks its rules, with one fault
pub use Rattle.ats_base.proofs.FirstOf.{one_first_of}
-- if each element satisfies its rules or breaks them, all do or one breaks them first
pub use Rattle.ats_base.proofs.FirstOf.{hold_or_first_of}

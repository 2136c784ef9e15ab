-- What other rooms may cite of the proofs of this one. All other files here are private.

-- the parts of a text that bytes spell are in their ranges
pub use Rattle.ats_text_check.proofs.Fields.{in_range}
-- bytes spell at most one text
pub use Rattle.ats_text_check.proofs.Fields.{one_text}
-- a text in its ranges is spelled by the join of its fields
pub use Rattle.ats_text_check.proofs.Fields.{spells}
-- two spellings of one text are the same bytes
pub use Rattle.ats_text_check.proofs.Fields.{one_join}
-- a text has at most one first refusal, and none if it is accepted
pub use Rattle.ats_text_check.proofs.Refusals.{one_refusal, not_refused}
-- for each archive with the root, an accepted text is the archive's own, or there is a collision
pub use Rattle.ats_text_check.proofs.Own.{own_or_collides}
-- the strings of the texts tree that the check hashes
pub use Rattle.ats_text_check.proofs.Own.{tree_strings_of}
-- the first string of an accepted text that differs from an archive's own is the first collision
pub use Rattle.ats_text_check.proofs.Own.{text-collision-is-difference}

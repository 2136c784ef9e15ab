-- What other rooms may cite of the proofs of this one. All other files here are private.

-- under the archive's root, the check accepts the proof that the bytes of an honest proof spell
pub use Rattle.ats_accepts.proofs.Accepted.{proved_accepted}
-- the proof that the bytes of an honest proof spell has no collision with the archive
pub use Rattle.ats_accepts.proofs.HonestStrings.{proved_unclashing}
-- under the archive's root, a proof of a cut keeps all groups of rules before those of the rows
pub use Rattle.ats_accepts.proofs.AcceptedCut.{section_rules_hold}
-- a proof of a cut has no collision with the archive
pub use Rattle.ats_accepts.proofs.HonestStrings.{shown_unclashing}
-- if a cut shows all entries of some list, the check sees a whole list
pub use Rattle.ats_accepts.proofs.AcceptedWhole.{whole_seen}
-- the lanes that a check sees of a proof of a cut are those of the cut
pub use Rattle.ats_accepts.proofs.AcceptedCut.{shown_lanes}
-- the brackets that a check forms of the honest proof of a walk are those of its cut
pub use Rattle.ats_accepts.proofs.AcceptedRows.{formed_are}
-- the rows of the honest proof of a walk are met documents, each once
pub use Rattle.ats_accepts.proofs.AcceptedRows.{walk_rows}
-- the honest proof of a walk keeps all rules before those of the rows
pub use Rattle.ats_accepts.proofs.AcceptedRows.{walk_sections}
-- no bracket's lower end is above its upper end
pub use Rattle.ats_accepts.proofs.AcceptedRows.{proper}

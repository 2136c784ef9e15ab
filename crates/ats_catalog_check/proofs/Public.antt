-- What other rooms may cite of the proofs of this one. All other files here are private.

-- what a catalog's proof shows has at most one first refusal, and none if it is accepted
pub use Rattle.ats_catalog_check.proofs.Refusals.{one_refusal, not_refused}
-- room for 65,536 marks is enough for the check of what any catalog's proof shows
pub use Rattle.ats_catalog_check.proofs.Left.{met_at_most}
-- bytes spell one list of proofs of shards
pub use Rattle.ats_catalog_check.proofs.Soundness.{one_proofs}
-- what holds of the rows of two lists holds of those of their merge
pub use Rattle.ats_catalog_check.proofs.Merges.{all_merged}
-- a merge of two lists begins with the greater first row, and with the first list's if they are level
pub use Rattle.ats_catalog_check.proofs.Merges.{step_later, step_first}

-- What other rooms may cite of the proofs of this one. All other files here are private.

-- for each catalog with the root, an accepted proof has right rows or its audit reports a collision
pub use Rattle.ats_catalog_audit.proofs.Told.{told}
-- the first collision of what is shown of shards is two different strings with equal digests
pub use Rattle.ats_catalog_audit.proofs.Told.{collision-collides}
-- bytes are accepted as what is shown of one list of shards, with one list of proofs
pub use Rattle.ats_catalog_audit.proofs.Told.{one_shards}
-- an audit that took no index since, or those of some archives and then those of others
pub use Rattle.ats_catalog_audit.proofs.AuditState.{taken_none, taken_more}

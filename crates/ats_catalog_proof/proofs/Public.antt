-- What other rooms may cite of the proofs of this one. All other files here are private.

-- an archive with the root that a ranking keeps for a shard has the root of the catalog's
pub use Rattle.ats_catalog_proof.proofs.Shards.{has_root}

-- What other rooms may cite of the proofs of this one. All other files here are private.

-- two archives with the same index bytes are equal
pub use Rattle.ats_index.proofs.OneArchive.{one_archive}
-- the bytes of an archive's index have no place of a load fault
pub use Rattle.ats_index.proofs.OnePlace.{no_place}
-- two places of a load fault in the same bytes are equal
pub use Rattle.ats_index.proofs.OnePlace.{one_place}
-- the index of an archive has at most 2^29 bytes, if digests have 32 bytes
pub use Rattle.ats_index.proofs.Size.{index_size}

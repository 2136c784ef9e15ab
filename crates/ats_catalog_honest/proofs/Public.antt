-- What other rooms may cite of the proofs of this one. All other files here are private.

-- the order of a catalog's ranking is total, and only equal rows tie in it
pub use Rattle.ats_catalog_honest.proofs.Rankings.{ranked_cmp_total, ranked_cmp_exact}
-- a catalog has a plain ranking if none but its first shards have documents, and two plain rankings of it are equal
pub use Rattle.ats_catalog_honest.proofs.Rankings.{ranking_exists, one_ranking}
-- a shard that has a document is one of the catalog's
pub use Rattle.ats_catalog_honest.proofs.Edges.{is_there}
-- distinct elements that are sorted rise strictly
pub use Rattle.ats_catalog_honest.proofs.Sorted.{strictly_sorted}

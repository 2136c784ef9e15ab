-- What other rooms may cite of the proofs of this one. All other files here are private.

-- what bytes spell has its parts in their ranges
pub use Rattle.ats_catalog_bytes.proofs.Fields.{in_range}
-- a list of shards in its ranges is spelled by the join of its fields
pub use Rattle.ats_catalog_bytes.proofs.Fields.{spells}
-- bytes spell at most one list of shards
pub use Rattle.ats_catalog_bytes.proofs.Fields.{one_catalog}
-- two spellings of one list of shards are the same bytes
pub use Rattle.ats_catalog_bytes.proofs.Fields.{one_join}
-- two lists of roots with one root of a catalog are equal, or there is a collision
pub use Rattle.ats_catalog_bytes.proofs.Roots.{roots_bound}
-- the same as a run of strings before others: it shows that the lists are equal, or its first difference collides
pub use Rattle.ats_catalog_bytes.proofs.Roots.{roots_bind}
-- the first string of such roots that differs from ours is the first collision
pub use Rattle.ats_catalog_bytes.proofs.Roots.{roots-collision-is-difference}
-- roots have no collision with themselves
pub use Rattle.ats_catalog_bytes.proofs.OwnRoots.{roots_unclashing}
-- all roots of a list as leaves of their tree
pub use Rattle.ats_catalog_bytes.proofs.AllShown.{all_shown}
-- the positions of all leaves rise, and there is one leaf for each root
pub use Rattle.ats_catalog_bytes.proofs.AllShown.{positions_rise, shown_many}
-- leaf k is root k
pub use Rattle.ats_catalog_bytes.proofs.AllShown.{leaf_is}
-- all leaves rebuild the root of their tree, without a digest
pub use Rattle.ats_catalog_bytes.proofs.AllShown.{all_rebuild}

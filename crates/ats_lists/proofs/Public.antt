-- What other rooms may cite of the proofs of this one. All other files here are private.

-- a run of numbers rises strictly
pub use Rattle.ats_lists.proofs.Fronts.{range-rises}
-- the root of a list has 32 bytes
pub use Rattle.ats_lists.proofs.FormatLaws.{root-sized}
-- the first entries of a list need few digests of 32 bytes, which rebuild its root; their strings are the list's own
pub use Rattle.ats_lists.proofs.FormatLaws.{front-few, front-sized, front-rebuilds, front-own}
-- the first leaves of a list in blocks need at most 7 digests
pub use Rattle.ats_lists.proofs.ChainLaws.{elided-few}
-- leaves and digests that rebuild a list's root are bound to the list, in either format
pub use Rattle.ats_lists.proofs.FormatLemmas.{list-bound}
-- a string of one tree is at the numbers of its node
pub use Rattle.ats_lists.proofs.FormatLemmas.{numbers-own}
-- each string of a list begins with its tag, and a list without entries has none
pub use Rattle.ats_lists.proofs.FormatLaws.{list-tagged, list-empty}
-- a list's strings are at most `deepest` deep, and some turns below 2^32 lead to each
pub use Rattle.ats_lists.proofs.FormatPlaces.{list-within, list-turns, path-turns}

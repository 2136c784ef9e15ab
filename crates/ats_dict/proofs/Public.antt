-- What other rooms may cite of the proofs of this one. All other files here are private.

-- the bytes have version 1, these two numbers and these three roots at the places of a header
pub use Rattle.ats_dict.proofs.HeaderLemmas.{AreParts}
-- the bytes of a header in range have its numbers and roots at their places
pub use Rattle.ats_dict.proofs.HeaderLemmas.{parts}
-- the last position of a dictionary, after all entries, has the high sentinel
pub use Rattle.ats_dict.proofs.Sentinels.{entry_at-last}
-- entry i of a dictionary is at leaf position i + 1, after the low sentinel
pub use Rattle.ats_dict.proofs.Sentinels.{entry_at-suc}
-- the dictionary leaf at a position has the bytes of the entry or sentinel at that position
pub use Rattle.ats_dict.proofs.Sentinels.{get_or-dict_leaves}
-- a dictionary has two more leaves than entries
pub use Rattle.ats_dict.proofs.Sentinels.{length-dict_leaves}
-- the terms of all leaves of a dictionary rise strictly in byte order, sentinels included
pub use Rattle.ats_dict.proofs.Sentinels.{terms_rise}
-- dictionary leaves with equal bytes and frequencies below 2^32 have equal terms, frequencies and roots
pub use Rattle.ats_dict.proofs.LeafLemmas.{leaf_parts}

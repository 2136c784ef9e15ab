-- What other rooms may cite of the proofs of this one. All other files here are private.

-- counting terms into pairs raises the sum of the weights by the number of the terms
pub use Rattle.ats_terms.proofs.Counting.{all_weigh}
-- the counted pairs of a list have strictly rising terms, each weighted by its occurrences
pub use Rattle.ats_terms.proofs.Counting.{counted_counts}
-- two byte strings that compare equal in byte order are equal
pub use Rattle.ats_terms.proofs.Counting.{equal_from}
-- if a term compares greater than another in byte order, the other term is below the first
pub use Rattle.ats_terms.proofs.Order.{above_from}
-- a byte string that compares less than another in byte order differs from the other
pub use Rattle.ats_terms.proofs.Order.{less_unequal}
-- in pairs whose terms rise strictly, the terms at two different positions differ
pub use Rattle.ats_terms.proofs.Order.{rises_apart}
-- in pairs whose terms rise strictly, each earlier term is less than each later term
pub use Rattle.ats_terms.proofs.Order.{rises_less}
-- the high sentinel is above each non-empty term that does not begin with 0xFF
pub use Rattle.ats_terms.proofs.Sentinels.{high_above}
-- between sentinels, item i is at position i + 1, after the low sentinel
pub use Rattle.ats_terms.proofs.Sentinels.{inner_at}
-- the high sentinel is at the position right after all items
pub use Rattle.ats_terms.proofs.Sentinels.{last_at}
-- a list of items between two sentinels has two more elements than items
pub use Rattle.ats_terms.proofs.Sentinels.{length-between}
-- the low sentinel is below each non-empty term
pub use Rattle.ats_terms.proofs.Sentinels.{low_below}
-- if a term is at no position between the sentinels, it is the term of no item
pub use Rattle.ats_terms.proofs.Sentinels.{none_of}
-- a term that is the term of no item is at no position between the sentinels
pub use Rattle.ats_terms.proofs.Sentinels.{nowhere}
-- if items have valid terms that rise strictly, the terms from the empty sentinel to 0xFF rise strictly
pub use Rattle.ats_terms.proofs.Sentinels.{rise_between}
-- there are at most as many pairs with weights above 0 as the sum of their weights
pub use Rattle.ats_terms.proofs.Unique.{few_pairs}
-- the weight of a term that is in none of the pairs is 0
pub use Rattle.ats_terms.proofs.Unique.{weight_absent}
-- in pairs whose terms rise strictly, the weight of a pair's term is that pair's weight
pub use Rattle.ats_terms.proofs.Unique.{weight_at}
-- two terms of at most n bytes are equal if they have the same length and the same number of the first n bytes
pub use Rattle.ats_terms.proofs.Fronts.{front_tells}

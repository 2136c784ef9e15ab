-- What other rooms may cite of the proofs of this one. All other files here are private.

-- a proof that satisfies each group of the check's rules is accepted
pub use Rattle.ats_client.proofs.Kept.{accepts_each}
-- no bytes are both accepted and rejected under one root for one query and row limit
pub use Rattle.ats_client.proofs.OneRejection.{accepted_not_refused}
-- bytes are rejected in one way at most
pub use Rattle.ats_client.proofs.OneRejection.{one_rejection}
-- two tables with the same impacts of a document give the document the same looked-up score
pub use Rattle.ats_client.proofs.HeadlineBrackets.{looked_same}
-- an accepted proof in range has, for each archive with the root, right rows or a collision
pub use Rattle.ats_client.proofs.Headline.{top_or_collides}
-- if the rules of what a proof shows hold, all of it is the archive's own or there is a collision
pub use Rattle.ats_client.proofs.Headline.{own_or_collides}
-- a proof in range of which all rules before the settling hold has, for each archive with the root, bounded rows or a
-- collision
pub use Rattle.ats_client.proofs.Headline.{bounded_or_collides}
-- one rule before the settling fails first, and then not all hold
pub use Rattle.ats_client.proofs.OneRefusal.{one_shown_refusal, not_both_shown}
-- if a rule of what a proof shows fails first, not all hold
pub use Rattle.ats_client.proofs.OneRefusal.{section_rules_do_not_hold}
-- one rule of what a proof shows fails first
pub use Rattle.ats_client.proofs.OneRefusal.{one_section}
-- each rule before the settling fails in one way, and does then not hold
pub use Rattle.ats_client.proofs.OneRefusal.{exact_shown}
-- no rule of what a proof shows fails as not settled
pub use Rattle.ats_client.proofs.Sectioned.{never_unsettled}
-- a refused proof without rows breaks a rule of what it shows, or keeps them and is not settled
pub use Rattle.ats_client.proofs.Sectioned.{refused_sections}
-- the rules of what a proof shows hold, and all of that is the archive's own
pub use Rattle.ats_client.proofs.OwnCounts.{ShowsOwn}
-- a number below n is one of the numbers from 0 on, n of them
pub use Rattle.ats_client.proofs.OwnCounts.{below_in}
-- no document has a term whose slot says that it is absent
pub use Rattle.ats_client.proofs.OwnCounts.{absent_lacks}
-- each document with all terms of the query is met, if a whole list is shown
pub use Rattle.ats_client.proofs.OwnCounts.{whole_meets}
-- a met document is one of the texts
pub use Rattle.ats_client.proofs.OwnCounts.{met_inside}
-- the slots of a met document say which of the present terms it has
pub use Rattle.ats_client.proofs.OwnCounts.{slots_tell}
-- a proof that bytes spell has at most 2^26 items
pub use Rattle.ats_client.proofs.FewItems.{few_items}
-- the first collision of a proof is two different strings with equal digests
pub use Rattle.ats_client.proofs.Collisions.{collision-collides}
-- what holds of all sections of met documents holds of each one's
pub use Rattle.ats_client.proofs.DescentDocuments.{sections-hold}
-- what holds of all elements holds of the one at a place
pub use Rattle.ats_client.proofs.TermsLeft.{at_place}
-- a list whose first item was taken is that item before the rest
pub use Rattle.ats_client.proofs.Counts.{taken}
-- a collision that is there is not none
pub use Rattle.ats_tree.proofs.Public.{none_some}
-- what no threshold and no bracket outside the answer exceeds is no less than the rest
pub use Rattle.ats_client.proofs.Rests.{rest_within}

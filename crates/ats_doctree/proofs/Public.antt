-- What other rooms may cite of the proofs of this one. All other files here are private.

-- an impact is from 1 to 2200, if the collection has at least one term
pub use Rattle.ats_doctree.proofs.Counts.{impact_in_range}
-- a document has at most as many distinct terms as term occurrences
pub use Rattle.ats_doctree.proofs.Documents.{doc_terms_few}
-- the distinct terms of a document rise strictly in byte order
pub use Rattle.ats_doctree.proofs.Documents.{doc_terms_rise}
-- each distinct term of a document is listed with the impact of its count in the text
pub use Rattle.ats_doctree.proofs.Documents.{impact_tells}
-- a term that is not among a document's distinct terms does not occur in the text
pub use Rattle.ats_doctree.proofs.Documents.{none_stands}
-- each of a document's distinct terms occurs in the text
pub use Rattle.ats_doctree.proofs.Documents.{term_stands}
-- the leaf at a position of a terms tree has the bytes of the term or sentinel at that position
pub use Rattle.ats_doctree.proofs.Positions.{get_or-terms_leaves}
-- the last leaf position of a terms tree, after all terms, has the high sentinel
pub use Rattle.ats_doctree.proofs.Positions.{item_at-last}
-- term i of a document is at leaf position i + 1, after the low sentinel
pub use Rattle.ats_doctree.proofs.Positions.{item_at-suc}
-- a terms tree has two more leaves than terms
pub use Rattle.ats_doctree.proofs.Positions.{length-terms_leaves}
-- the terms of all leaves of a terms tree rise strictly in byte order, sentinels included
pub use Rattle.ats_doctree.proofs.Positions.{terms_rise}
-- leaves of a terms tree with equal bytes and impacts below 2^16 have equal terms and impacts
pub use Rattle.ats_doctree.proofs.LeafLemmas.{leaf_parts}

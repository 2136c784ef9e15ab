-- What other rooms may cite of the proofs of this one. All other files here are private.

-- the dictionary has a leaf for each term of the vocabulary, and two sentinels
pub use Rattle.ats_commit.proofs.DictionaryLemmas.{dictionary_count}
-- each dictionary entry has the number of documents that have its term
pub use Rattle.ats_commit.proofs.DictionaryLemmas.{dictionary_numbers}
-- each dictionary entry has the root of its term's list
pub use Rattle.ats_commit.proofs.DictionaryLemmas.{dictionary_roots}
-- the terms of the dictionary's entries are the vocabulary, in the same order
pub use Rattle.ats_commit.proofs.DictionaryLemmas.{dictionary_terms}
-- an archive within the limits, with at most 2^24 term occurrences, has a header in range
pub use Rattle.ats_commit.proofs.HeaderLemmas.{header_in_range}
-- texts in UTF-8 within the limits of a collection have at most 2^24 term occurrences
pub use Rattle.ats_commit.proofs.TermLemmas.{few_within}
-- formats with equal tags are equal
pub use Rattle.ats_commit.proofs.OwnHeader.{same_format}
-- what is known of a tree's strings, unless the first difference collides, is known of them by their numbers
pub use Rattle.ats_commit.proofs.PrefixLemmas.{known-by-numbers}
-- a header in range with the bytes, or the string, of the archive's own has the archive's numbers and roots
pub use Rattle.ats_commit.proofs.OwnHeader.{own_header, own_numbers}
-- equal strings have the same tag, and the same bytes after it
pub use Rattle.ats_commit.proofs.OwnHeader.{tag_same, rest_same}
-- a dictionary leaf that is no sentinel has the length and the root of its term's list
pub use Rattle.ats_commit.proofs.OwnLeaves.{leaf_tells_entry}
-- an entry in range whose leaf bytes are at a position of a term's list is the posting there
pub use Rattle.ats_commit.proofs.OwnLeaves.{leaf_tells_posting}
-- a term strictly between two neighbouring dictionary leaves has an empty list and is in no text
pub use Rattle.ats_commit.proofs.OwnLeaves.{neighbours_tell}
-- if what is shown of a tree is the archive's own, each string that is hashed from it is the archive's own
pub use Rattle.ats_commit.proofs.OwnPlaces.{shown_are_ours}
-- there is no string in the terms tree of a document number past the last document
pub use Rattle.ats_commit.proofs.OwnPlaces.{none_past}
-- if items rise in byte order, a term strictly between two neighbours is no item's
pub use Rattle.ats_commit.proofs.Enclosed.{none_between}
-- a leaf of the documents tree has the number of leaves and the root of its document's terms tree
pub use Rattle.ats_commit.proofs.OwnDocuments.{leaf_tells_document}
-- a non-sentinel leaf of a document's terms tree has a term of the text and its impact there
pub use Rattle.ats_commit.proofs.OwnDocuments.{leaf_tells_impact}
-- a term strictly between two neighbouring leaves of a document's terms tree is not in the text
pub use Rattle.ats_commit.proofs.OwnDocuments.{neighbours_tell_document}

-- The digests of an archive's lists, and of all nodes of its trees, under a hash function H.
use Rattle.std.specs.Prelude.{◌≡◌, ℕ, List, map}
use Rattle.ats_tree.specs.Kept.{kept_digests}
use Rattle.ats_lists.specs.KeptList.{kept_list}
use Rattle.ats_postings.specs.Lists.{lists_of}
use Rattle.ats_postings.specs.declared.entry.Entry.{Entry}
use Rattle.ats_lists.specs.declared.format.Format.{Format}
use Rattle.ats_lists.specs.declared.list_keeping.ListDigests.{ListDigests}
use Rattle.ats_dict.specs.Dictionary.{dict_leaves}
use Rattle.ats_doctree.specs.Impacts.{text_terms}
use Rattle.ats_doctree.specs.Sentinels.{terms_leaves}
use Rattle.ats_commit.specs.Archive.{Archive}
use Rattle.ats_commit.specs.Trees.{dictionary_of, documents_of}

-- the digests of each list, in this format
abbrev pub all_list_digests : (List ℕ → List ℕ) → Format → List (List ℕ × List Entry) → List ListDigests
all_list_digests H format lists = map (λ list. kept_list H format list.1) lists

-- the digests of each document's terms tree, in the order of documents
abbrev pub all_term_digests : (List ℕ → List ℕ) → List (List ℕ) → List (List (List ℕ))
all_term_digests H texts = map (λ text. kept_digests H (terms_leaves (text_terms texts text))) texts

-- the digests of the lists, of the documents' terms, of the dictionary and of the documents are the archive's
pub record AreNodesOf
    (H : List ℕ → List ℕ)
    (archive : Archive)
    (lists : List ListDigests)
    (terms : List (List (List ℕ)))
    (dictionary documents : List (List ℕ))
    : Type 0 where
  pub own_lists : lists ≡ all_list_digests H archive.format (lists_of archive.texts)
  pub own_terms : terms ≡ all_term_digests H archive.texts
  pub own_dictionary : dictionary ≡ kept_digests H (dict_leaves (dictionary_of H archive))
  pub own_documents : documents ≡ kept_digests H (documents_of H archive.texts)

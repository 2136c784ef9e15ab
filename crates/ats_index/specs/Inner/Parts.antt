-- Beside specs/Parts: what only the functions of this room promise one another.
use Rattle.std.specs.Prelude.{◌≡◌, ℕ, List, map}
use Rattle.ats_terms.specs.Terms.{terms}
use Rattle.ats_terms.specs.Query.{counted}
use Rattle.ats_postings.specs.Lists.{lists_of}
use Rattle.ats_postings.specs.declared.entry.Entry.{Entry}
use Rattle.ats_dict.specs.Entry.{DictEntry}
use Rattle.ats_dict.specs.declared.header.Header.{Header}
use Rattle.ats_doctree.specs.Impacts.{text_terms}
use Rattle.ats_doctree.specs.declared.doc_leaf.DocLeaf.{DocLeaf}
use Rattle.ats_commit.specs.Archive.{Archive}
use Rattle.ats_commit.specs.Trees.{dictionary_of}
use Rattle.ats_commit.specs.Root.{header_parts, root_of}
use Rattle.ats_commit.specs.Own.{AreTexts}
use Rattle.ats_index.specs.Parts.{all_leaves}

-- the counted terms of each document, in the order of documents
abbrev pub all_counts : List (List ℕ) → List (List (List ℕ × ℕ))
all_counts texts = map (λ text. counted (terms text)) texts

-- the terms of each document with their impacts, in the order of documents
abbrev pub all_terms : List (List ℕ) → List (List (List ℕ × ℕ))
all_terms texts = map (text_terms texts) texts

-- the texts are within the limits, and each part is the archive's
pub record IsIndexOf
    (H : List ℕ → List ℕ)
    (archive : Archive)
    (lists : List (List ℕ × List Entry))
    (dictionary : List DictEntry)
    (terms : List (List (List ℕ × ℕ)))
    (leaves : List DocLeaf)
    (header : Header)
    (root : List ℕ)
    : Type 0 where
  pub texts_within : AreTexts archive.texts
  pub own_lists : lists ≡ lists_of archive.texts
  pub own_dictionary : dictionary ≡ dictionary_of H archive
  pub own_terms : terms ≡ all_terms archive.texts
  pub own_leaves : leaves ≡ all_leaves H archive.texts
  pub own_header : header ≡ header_parts H archive
  pub own_root : root ≡ root_of H archive

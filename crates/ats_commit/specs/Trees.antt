-- The trees of an archive, each as the list of its leaves, under a hash function H.
use Rattle.std.specs.Prelude.{ℕ, List, length, map}
use Rattle.ats_tree.specs.Tree.{mth}
use Rattle.ats_lists.specs.Formats.{list_root}
use Rattle.ats_postings.specs.Lists.{lists_of}
use Rattle.ats_postings.specs.declared.entry.Entry.{Entry}
use Rattle.ats_dict.specs.Entry.{DictEntry}
use Rattle.ats_doctree.specs.DocumentLeaf.{doc_leaf_bytes}
use Rattle.ats_doctree.specs.Impacts.{text_terms}
use Rattle.ats_doctree.specs.Sentinels.{terms_leaves}
use Rattle.ats_doctree.specs.declared.doc_leaf.DocLeaf.{DocLeaf}
use Rattle.ats_lists.specs.declared.format.Format.{Format}
use Rattle.ats_commit.specs.Archive.{Archive}

-- the entry of a term's list: the term, how many entries the list has, and its root
abbrev pub dict_entry : (List ℕ → List ℕ) → Format → List ℕ × List Entry → DictEntry
dict_entry H format list = record { term = list.0; f = length list.1; root = list_root H format list.1 }

-- the entries of the dictionary, one for each list
abbrev pub dictionary_of : (List ℕ → List ℕ) → Archive → List DictEntry
dictionary_of H archive = map (dict_entry H archive.format) (lists_of archive.texts)

-- the leaf of a document whose terms tree has these leaves: their number and their root
abbrev pub documents_leaf : (List ℕ → List ℕ) → List (List ℕ) → List ℕ
documents_leaf H leaves = doc_leaf_bytes (length leaves) (mth H leaves)

-- the documents leaf of a document with these terms
abbrev pub leaf_of_terms : (List ℕ → List ℕ) → List (List ℕ × ℕ) → DocLeaf
leaf_of_terms H terms = record { leaves = length (terms_leaves terms); root = mth H (terms_leaves terms) }

-- the leaves of the documents tree, one for each text
abbrev pub documents_of : (List ℕ → List ℕ) → List (List ℕ) → List (List ℕ)
documents_of H texts = map (λ text. documents_leaf H (terms_leaves (text_terms texts text))) texts

-- the bytes of a documents leaf
abbrev pub leaf_of : DocLeaf → List ℕ
leaf_of leaf = doc_leaf_bytes leaf.leaves leaf.root

-- What the strings of an archive's own trees say of it.
use Rattle.std.specs.Prelude.{◌≡◌, ◌+◌, ◌<◌, ◌^◌, ℕ, List, [], Some, length, slice_get, slice_index_or}
use Rattle.std.specs.List.{All}
use Rattle.std.specs.Str.{IsUtf8}
use Rattle.ats_tree.specs.Tree.{mth}
use Rattle.ats_terms.specs.Terms.{terms}
use Rattle.ats_impact.specs.Limits.{AreWithin}
use Rattle.ats_impact.specs.Numbers.{impact}
use Rattle.ats_impact.specs.Score.{count, total_terms}
use Rattle.ats_lists.specs.Formats.{list_root}
use Rattle.ats_postings.specs.Lists.{list}
use Rattle.ats_dict.specs.Dictionary.{leaf_of, dict_leaves}
use Rattle.ats_dict.specs.Entry.{DictEntry}
use Rattle.ats_dict.specs.declared.header.Header.{Header}
use Rattle.ats_doctree.specs.Impacts.{doc_terms}
use Rattle.ats_doctree.specs.Sentinels.{terms_leaves, leaf_bytes as term_bytes}
use Rattle.ats_doctree.specs.declared.doc_leaf.DocLeaf.{DocLeaf}
use Rattle.ats_commit.specs.Archive.{Archive}
use Rattle.ats_commit.specs.Trees.{dictionary_of, documents_of}

-- texts within the limits of a collection
pub record AreTexts (texts : List (List ℕ)) : Type 0 where
  pub utf8 : All IsUtf8 texts
  pub within : AreWithin texts

-- the numbers and roots are those of the archive's header
pub record IsHeaderOf (H : List ℕ → List ℕ) (archive : Archive) (header : Header) : Type 0 where
  pub number : header.documents ≡ length archive.texts
  pub leaves : header.dict_leaves ≡ length (dict_leaves (dictionary_of H archive))
  pub dictionary : header.dict_root ≡ mth H (dict_leaves (dictionary_of H archive))
  pub all : header.docs_root ≡ mth H (documents_of H archive.texts)
  pub raw : header.texts_root ≡ mth H archive.texts

-- the number and the root are those of the list of the entry's term
pub record IsEntryOf (H : List ℕ → List ℕ) (archive : Archive) (entry : DictEntry) : Type 0 where
  pub number : entry.f ≡ length (list archive.texts entry.term)
  pub root : entry.root ≡ list_root H archive.format (list archive.texts entry.term)

-- the leaf at p is that of the lower entry, and the leaf after it that of the upper one
pub record AreNeighbours (leaves : List (List ℕ)) (p : ℕ) (lower upper : DictEntry) : Type 0 where
  pub first_small : lower.f < 2 ^ 32
  pub second_small : upper.f < 2 ^ 32
  pub first : slice_get leaves p ≡ Some (leaf_of lower)
  pub second : slice_get leaves (p + 1) ≡ Some (leaf_of upper)

-- the document is one of the texts, and the number and the root are those of its terms tree
pub record IsDocumentOf (H : List ℕ → List ℕ) (texts : List (List ℕ)) (doc : ℕ) (leaf : DocLeaf) : Type 0 where
  pub inside : doc < length texts
  pub leaves : leaf.leaves ≡ length (terms_leaves (doc_terms texts doc))
  pub root : leaf.root ≡ mth H (terms_leaves (doc_terms texts doc))

-- the text has the term, and the number is its impact there
pub record IsImpactIn (texts : List (List ℕ)) (text : List ℕ) (item : List ℕ × ℕ) : Type 0 where
  pub some : 0 < count item.0 text
  pub value : item.1 ≡ impact (count item.0 text) (total_terms texts) (length (terms text)) (length texts)

-- the document's text has the term, with this impact
abbrev pub IsImpactOf : List (List ℕ) → ℕ → List ℕ × ℕ → Type 0
IsImpactOf texts doc item = IsImpactIn texts (slice_index_or texts doc []) item

-- the leaf at p is that of the lower term with its impact, and the leaf after it that of the upper one
pub record AreTermNeighbours (leaves : List (List ℕ)) (p : ℕ) (lower upper : List ℕ × ℕ) : Type 0 where
  pub first_small : lower.1 < 2 ^ 16
  pub second_small : upper.1 < 2 ^ 16
  pub first : slice_get leaves p ≡ Some (term_bytes lower)
  pub second : slice_get leaves (p + 1) ≡ Some (term_bytes upper)

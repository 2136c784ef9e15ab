-- The header of an archive, and the root that commits to all of it.
use Rattle.std.specs.Prelude.{ℕ, List, ◌∷◌, length}
use Rattle.ats_tree.specs.Tree.{mth}
use Rattle.ats_dict.specs.Dictionary.{dict_leaves}
use Rattle.ats_dict.specs.Header.{header_bytes, IsHeader}
use Rattle.ats_dict.specs.declared.header.Header.{Header}
use Rattle.ats_lists.specs.declared.format.Format.{Format}
use Rattle.ats_commit.specs.Archive.{Archive, header_tag}
use Rattle.ats_commit.specs.Trees.{dictionary_of, documents_of}

-- the numbers of documents and of dictionary leaves, and the roots of the dictionary, the documents and the texts
abbrev pub header_of : (List ℕ → List ℕ) → Archive → List ℕ
header_of H archive =
    header_bytes
    (length archive.texts)
    (length (dict_leaves (dictionary_of H archive)))
    (mth H (dict_leaves (dictionary_of H archive)))
    (mth H (documents_of H archive.texts))
    (mth H archive.texts)

-- these numbers and roots, each by its name
abbrev pub header_parts : (List ℕ → List ℕ) → Archive → Header
header_parts H archive = record {
  documents = length archive.texts;
  dict_leaves = length (dict_leaves (dictionary_of H archive));
  dict_root = mth H (dict_leaves (dictionary_of H archive));
  docs_root = mth H (documents_of H archive.texts);
  texts_root = mth H archive.texts;
}

-- the archive has numbers and roots that a header can have
abbrev pub HasHeaderInRange : (List ℕ → List ℕ) → Archive → Type 0
HasHeaderInRange H archive =
    IsHeader
    (length archive.texts)
    (length (dict_leaves (dictionary_of H archive)))
    (mth H (dict_leaves (dictionary_of H archive)))
    (mth H (documents_of H archive.texts))
    (mth H archive.texts)

-- the digest of the header under the tag of its format
abbrev pub root_of : (List ℕ → List ℕ) → Archive → List ℕ
root_of H archive = H (header_tag archive.format ∷ header_of H archive)

-- a header's bytes under the tag of a format
abbrev pub header_string : Format → Header → List ℕ
header_string format h = header_tag format ∷ header_bytes h.documents h.dict_leaves h.dict_root h.docs_root h.texts_root

-- the root of an archive with this header and format
abbrev pub header_root : (List ℕ → List ℕ) → Format → Header → List ℕ
header_root H format h = H (header_string format h)

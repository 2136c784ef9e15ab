-- The bytes of an index: its archive's texts, its lists, and its root. Numbers are written high byte first.
use Rattle.std.specs.Prelude.{◌≡◌, ℕ, List, ◌∷◌, ◌++◌, length, codes}
use Rattle.std.specs.Int.{to_be_bytes, w32}
use Rattle.std.specs.List.{All, flat_map}
use Rattle.std.specs.Str.{IsUtf8}
use Rattle.ats_impact.specs.Limits.{AreWithin}
use Rattle.ats_lists.specs.Leaf.{leaf_bytes}
use Rattle.ats_postings.specs.Lists.{lists_of}
use Rattle.ats_postings.specs.declared.entry.Entry.{Entry}
use Rattle.ats_lists.specs.declared.format.Format.{Format}
use Rattle.ats_lists.specs.FormatNumber.{number_of_format}
use Rattle.ats_commit.specs.Archive.{Archive}
use Rattle.ats_commit.specs.Root.{root_of}

-- ATSI, the number of the format, and the number of texts in 4 bytes
unfoldable pub front_bytes : Format → ℕ → List ℕ
front_bytes format documents = codes "ATSI" ++ number_of_format format ∷ to_be_bytes w32 documents

-- the length of a text in 4 bytes, then the text
unfoldable pub text_bytes : List ℕ → List ℕ
text_bytes text = to_be_bytes w32 (length text) ++ text

-- the length of a term in one byte, the term, the number of its entries in 4 bytes, and the entries
unfoldable pub list_bytes : List ℕ × List Entry → List ℕ
list_bytes list = length list.0 ∷ list.0 ++ to_be_bytes w32 (length list.1) ++ flat_map leaf_bytes list.1

-- the front, and the texts in their order
abbrev pub texts_bytes : Format → List (List ℕ) → List ℕ
texts_bytes format texts = front_bytes format (length texts) ++ flat_map text_bytes texts

-- the number of lists in 4 bytes, then the lists in byte order of their terms
abbrev pub lists_bytes : List (List ℕ × List Entry) → List ℕ
lists_bytes lists = to_be_bytes w32 (length lists) ++ flat_map list_bytes lists

-- the texts, the lists and the root
abbrev pub index_bytes : (List ℕ → List ℕ) → Archive → List ℕ
index_bytes H archive = texts_bytes archive.format archive.texts ++ lists_bytes (lists_of archive.texts) ++ root_of H archive

-- the bytes are the index of this archive
pub record IsSpelling (H : List ℕ → List ℕ) (bytes : List ℕ) (archive : Archive) : Type 0 where
  pub utf8 : All IsUtf8 archive.texts
  pub within : AreWithin archive.texts
  pub same : bytes ≡ index_bytes H archive

-- What an archive gives for the text of a document.
use Rattle.std.specs.Prelude.{ℕ, List, [], ◌∷◌, slice_index_or}
use Rattle.ats_commit.specs.Archive.{Archive}
use Rattle.ats_commit.specs.Root.{header_parts}
use Rattle.ats_tree.specs.Elided.{elided_digests}
use Rattle.ats_text_check.specs.Value.{TextProof}

-- the archive's format and header, the text, and the digests that it needs of the texts tree
abbrev pub given_text : (List ℕ → List ℕ) → Archive → ℕ → TextProof
given_text H archive doc = record {
  format = archive.format;
  header = header_parts H archive;
  text = slice_index_or archive.texts doc [];
  digests = elided_digests H archive.texts (doc ∷ []);
}

-- The texts at the front of an index's bytes.
use Rattle.std.proofs.Common.{◌≡◌, ◌++◌, ℕ, List, append_assoc}
use Rattle.ats_postings.specs.Lists.{lists_of}
use Rattle.ats_commit.specs.Archive.{Archive}
use Rattle.ats_commit.specs.Root.{root_of}
use Rattle.ats_index.specs.Spelling.{texts_bytes, lists_bytes, index_bytes}

-- the texts, and the bytes after them
pub texts_first : (H : List ℕ → List ℕ) (archive : Archive)
    → index_bytes H archive ≡ texts_bytes archive.format archive.texts ++ (lists_bytes (lists_of archive.texts) ++ root_of H archive)
texts_first H archive = append_assoc (texts_bytes archive.format archive.texts) (lists_bytes (lists_of archive.texts)) (root_of H archive)

-- Beside specs/Root: what only the functions of this room promise one another.
use Rattle.std.specs.Prelude.{◌≡◌, ℕ, List, true}
use Rattle.std.specs.Str.{bytes_eq}
use Rattle.ats_dict.specs.declared.header.Header.{Header}
use Rattle.ats_lists.specs.declared.format.Format.{Format}
use Rattle.ats_commit.specs.Archive.{Archive}
use Rattle.ats_commit.specs.Root.{header_parts, header_string}

-- the string of an archive's own header
abbrev pub own_header_string : (List ℕ → List ℕ) → Archive → List ℕ
own_header_string H archive = header_string archive.format (header_parts H archive)

-- the header has the string of the archive's own
abbrev pub HasOwnHeader : (List ℕ → List ℕ) → Archive → Format → Header → Type 0
HasOwnHeader H archive format header = bytes_eq (own_header_string H archive) (header_string format header) ≡ true

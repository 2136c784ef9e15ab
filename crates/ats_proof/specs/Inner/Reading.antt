-- Beside specs/Reading: what only the functions of this room promise one another.
use Rattle.std.specs.Prelude.{ℕ, List, take, drop}
use Rattle.ats_dict.specs.declared.header.Header.{Header}
use Rattle.ats_proof.specs.Parts.{number_in}

-- the header that begins here with its version
abbrev pub header_at : List ℕ → Header
header_at bytes = record {
  documents = number_in 4 (drop 1 bytes);
  dict_leaves = number_in 4 (drop 5 bytes);
  dict_root = take 32 (drop 9 bytes);
  docs_root = take 32 (drop 41 bytes);
  texts_root = take 32 (drop 73 bytes);
}

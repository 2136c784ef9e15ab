-- The clash of headers, and differences of the texts tree.
use Rattle.std.specs.Prelude.{◌≡◌, List, ℕ, false}
use Rattle.std.specs.Str.{bytes_eq}
use Rattle.ats_commit.specs.Archive.{Archive}
use Rattle.ats_commit.specs.Root.{header_string}
use Rattle.ats_commit.specs.Inner.Root.{own_header_string}
use Rattle.ats_tree.specs.Differences.{Difference}
use Rattle.ats_tree.specs.declared.clashing.Clash.{Clash}
use Rattle.ats_text_check.specs.Strings.{TextPlace, header_place, in_texts}
use Rattle.ats_text_check.specs.Value.{TextProof}
use Rattle.ats_text_proof.specs.Inner.TextString.{bytes_of}
use Rattle.ats_text_proof.specs.declared.own_texts.TextString.{TextString}
use Rattle.ats_text_proof.specs.declared.verdict.TextClash.{TextClash}

-- the headers have different strings, which the clash has
pub record IsHeaderClash (H : List ℕ → List ℕ) (archive : Archive) (proof : TextProof) (clash : TextClash) : Type 0 where
  pub differs : bytes_eq (own_header_string H archive) (header_string proof.format proof.header) ≡ false
  pub place : record { header = clash.header; depth = clash.depth; turns = clash.turns } ≡ header_place
  pub ours : clash.ours ≡ own_header_string H archive
  pub theirs : clash.theirs ≡ header_string proof.format proof.header

-- the two strings of a clash that was found in the texts tree, by their bytes
abbrev pub difference_in : Clash TextString → Difference TextPlace
difference_in clash = record {
  place = in_texts (record { depth = clash.depth; turns = clash.turns });
  ours = bytes_of clash.ours;
  theirs = bytes_of clash.theirs;
}

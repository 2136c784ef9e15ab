use Rattle.std.proofs.Common.{◌≡◌, ◌≤◌, ◌^◌, ◌++◌, length}
use Rattle.std.specs.Prelude.{sum_by}
use Rattle.std.specs.List.{All, flat_map}
use Rattle.std.specs.Str.{IsUtf8}
use Rattle.ats_impact.specs.Limits.{AllShort}
use Rattle.ats_index.specs.Spelling.{front_bytes, text_bytes}
use Rattle.ats_index.proofs.read.read_texts.Given as goal

-- the texts so far precede the rest, and are within the limits
abbrev pub invariant-loop-document : goal.invariant-loop-document
invariant-loop-document l = record {
  same : l.bytes ≡ (front_bytes l.format l.documents ++ flat_map text_bytes l.texts) ++ l.rest;
  count : length l.texts ≡ l._document;
  utf8 : All IsUtf8 l.texts;
  short : AllShort l.texts;
  sum : l.all ≡ sum_by length l.texts;
  small : l.all ≤ 2 ^ 24;
}

-- Beside specs/Limits: what only the functions of this room promise one another.
use Rattle.std.specs.Prelude.{◌≡◌, ◌≤◌, ◌^◌, ℕ, List, length}
use Rattle.std.specs.List.{All}
use Rattle.std.specs.Str.{IsUtf8}
use Rattle.ats_terms.specs.Terms.{terms}
use Rattle.ats_impact.specs.Score.{total_terms}
use Rattle.ats_impact.specs.Limits.{AreWithin}

-- the texts of a collection are UTF-8 and within the limits, and `total` is the number of their terms
pub record IsCollection (texts : List (List ℕ)) (total : ℕ) : Type 0 where
  pub utf8 : All IsUtf8 texts
  pub within : AreWithin texts
  pub terms : total ≡ total_terms texts
  pub few : total ≤ 2 ^ 24

-- a document keeps the terms of its text, of at most 2^20 bytes; the terms are no more than the bytes
pub record IsDocument (text : List ℕ) (found : List (List ℕ)) : Type 0 where
  pub terms : found ≡ terms text
  pub few : length found ≤ length text
  pub short : length text ≤ 2 ^ 20

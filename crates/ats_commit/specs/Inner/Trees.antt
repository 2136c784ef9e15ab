-- Beside specs/Trees: what only the functions of this room promise one another.
use Rattle.std.specs.Prelude.{◌<◌, ◌≤◌, ◌^◌, ℕ}

-- at least one document, none past the last; the numbers have 32 bits
pub record IsRange (from to documents : ℕ) : Type 0 where
  pub some : from < to
  pub within : to ≤ documents
  pub few : to < 2 ^ 32

-- What a case shows and what it wants, and the count of cases.
use Rattle.std.specs.Prelude.{ℕ, List, ◌≡◌, ◌<◌, length, take}

-- the status and the printed bytes, those that are wanted, and how many other things are not as wanted
pub record Case : Type 0 where
  pub status : ℕ
  pub printed : List ℕ
  pub wanted_status : ℕ
  pub wanted : List ℕ
  pub misfits : ℕ

-- nothing differs
abbrev pub IsAsWanted : Case → Type 0
IsAsWanted c = (c.status ≡ c.wanted_status) × (c.printed ≡ c.wanted) × (c.misfits ≡ 0)

-- how many cases passed, and a report on the others
pub record Counted : Type 0 where
  pub passed : ℕ
  pub report : List ℕ

-- a report goes on after what it had
pub record IsLonger (before after : List ℕ) : Type 0 where
  pub same : take (length before) after ≡ before
  pub longer : length before < length after

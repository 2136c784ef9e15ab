-- The named files that a shelf reports, one file as a command reads it, and one as it stores it.
use Rattle.std.specs.Prelude.{◌≤◌, ℕ, List, length, take, Option, IsSome}
use Rattle.ats_base.specs.Outside.{Holds, Puts}

-- what a shelf reports of its files
abbrev pub Files : Type 0
Files = Option (List ℕ → Option (List ℕ))

abbrev pub IsTold : Files → Type 0
IsTold files = IsSome files

-- the named file has these bytes, if the shelf reports them, and they are within the limit
pub record IsFile (files : Files) (name : List ℕ) (limit : ℕ) (bytes : List ℕ) : Type 0 where
  pub held : Holds files name bytes
  pub short : length bytes ≤ limit

-- the named file holds a prefix of the bytes, which may be all of them
pub record PutsPart (before now : Files) (name bytes : List ℕ) : Type 0 where
  pub n : ℕ
  pub within : n ≤ length bytes
  pub stored : Puts before now name (take n bytes)

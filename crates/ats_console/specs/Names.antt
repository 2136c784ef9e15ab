-- The list of the files of a catalog's shards, and their archives.
use Rattle.std.specs.Prelude.{◌≡◌, ◌≤◌, ◌^◌, ◌++◌, ◌∷◌, [], ℕ, List, length}
use Rattle.std.specs.Str.{IsUtf8}
use Rattle.ats_commit.specs.Archive.{Archive}
use Rattle.ats_plan.specs.Files.{Files, IsFile}
use Rattle.ats_plan.specs.Plan.{Plan, Gets}
use Rattle.ats_console.specs.Lists.{IsListOf, IsListStop}
use Rattle.ats_console.specs.Steps.{reads_file, reads_index}
use Rattle.ats_console.specs.declared.stops.Stop.{Stop}

-- the line is the name of a file: a text of at least one byte
pub record SpellsName (line name : List ℕ) : Type 0 where
  pub same : name ≡ line
  pub text : IsUtf8 line
  pub some : 1 ≤ length line

-- the named file is the list of these names, 1 to 4,096
pub record HasNames (files : Files) (name : List ℕ) (names : List (List ℕ)) : Type 0 where
  pub bytes : List ℕ
  pub file : IsFile files name (2 ^ 20) bytes
  pub list : IsListOf SpellsName 4096 bytes names

-- the names of a list: its length, its number of lines, and its first line that spells no name
abbrev pub reads_names : (name : List ℕ) → (List (List ℕ) → Plan Stop) → Plan Stop
reads_names name rest = reads_file name (2 ^ 20) (λ bytes.
    Gets (List (List ℕ)) (IsListOf SpellsName 4096 bytes) (IsListStop SpellsName 4096 bytes) rest)

-- the archives of the named indexes in order, after those that it has
abbrev pub reads_archives : (List ℕ → List ℕ) → (got : List Archive) → (names : List (List ℕ)) → (List Archive → Plan Stop) → Plan Stop
reads_archives H got [] rest = rest got
reads_archives H got (name ∷ names) rest = reads_index H name (λ archive. reads_archives H (got ++ archive ∷ []) names rest)

-- The list of the roots of a catalog's shards.
use Rattle.std.specs.Prelude.{◌≡◌, ◌^◌, ℕ, List, Some}
use Rattle.ats_plan.specs.Files.{Files, IsFile}
use Rattle.ats_plan.specs.Plan.{Plan, Gets}
use Rattle.ats_console.specs.Lists.{IsListOf, IsListStop}
use Rattle.ats_console.specs.Steps.{reads_file}
use Rattle.ats_console.specs.Words.{root_word}
use Rattle.ats_console.specs.declared.stops.Stop.{Stop}

-- the line is the 64 lower-case hexadecimal digits of a root
abbrev pub SpellsRoot : (line root : List ℕ) → Type 0
SpellsRoot line root = root_word line ≡ Some root

-- the named file is the list of these roots, 1 to 4,096
pub record HasRoots (files : Files) (name : List ℕ) (roots : List (List ℕ)) : Type 0 where
  pub bytes : List ℕ
  pub file : IsFile files name (2 ^ 20) bytes
  pub list : IsListOf SpellsRoot 4096 bytes roots

-- the roots of a list: its length, its number of lines, and its first line that spells no root
abbrev pub reads_roots : (name : List ℕ) → (List (List ℕ) → Plan Stop) → Plan Stop
reads_roots name rest = reads_file name (2 ^ 20) (λ bytes.
    Gets (List (List ℕ)) (IsListOf SpellsRoot 4096 bytes) (IsListStop SpellsRoot 4096 bytes) rest)

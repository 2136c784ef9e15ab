-- Files of lines, each of which spells a value.
use Rattle.std.specs.Prelude.{◌≡◌, ◌==◌, ◌⊎◌, ◌+◌, ◌<◌, ◌≤◌, ◌++◌, ◌∷◌, ℕ, List, [], length, if◌then◌else◌}
use Rattle.std.specs.List.{AllZip}
use Rattle.ats_console.specs.Stops.{line_of_bad_line}
use Rattle.ats_console.specs.declared.stops.Stop.{Stop}
use Rattle.ats_console.specs.declared.stops.Stop.TheVariants.{Input}

-- one more byte at the front of the first line
abbrev pub begun_with : ℕ → List (List ℕ) → List (List ℕ)
begun_with byte [] = (byte ∷ []) ∷ []
begun_with byte (line ∷ lines) = (byte ∷ line) ∷ lines

-- the lines of some bytes: each ends with a line feed, except perhaps the last
abbrev pub lines_of : List ℕ → List (List ℕ)
lines_of [] = []
lines_of (byte ∷ bytes) = if byte == 10 then [] ∷ lines_of bytes else begun_with byte (lines_of bytes)

-- the lines of the bytes spell these values, at least one and at most this many
pub record IsListOf {V : Type 0} (Spells : List ℕ → V → Type 0) (most : ℕ) (bytes : List ℕ) (values : List V) : Type 0 where
  pub some : 1 ≤ length values
  pub few : length values ≤ most
  pub each : AllZip Spells (lines_of bytes) values

-- the first bad one of at most this many lines, with its number from 1 on
pub record IsFirstBadLine {V : Type 0} (Spells : List ℕ → V → Type 0) (most : ℕ) (lines : List (List ℕ)) (number : ℕ) : Type 0 where
  pub few : length lines ≤ most
  pub before : List (List ℕ)
  pub line : List ℕ
  pub after : List (List ℕ)
  pub parts : lines ≡ before ++ line ∷ after
  pub good : (values : List V) × AllZip Spells before values
  pub bad : (value : V) → Spells line value → ⊥
  pub counted : number ≡ length before + 1

-- there is no line; or there are too many, whatever they are; or one is bad
abbrev pub IsBadLine : {V : Type 0} → (List ℕ → V → Type 0) → (most : ℕ) → List (List ℕ) → ℕ → Type 0
IsBadLine Spells most lines number =
    ((lines ≡ []) × (number ≡ 1))
    ⊎ (((most < length lines) × (number ≡ most + 1)) ⊎ IsFirstBadLine Spells most lines number)

-- the line is that of the first line of the list that is out of form
abbrev pub IsListStop : {V : Type 0} → (List ℕ → V → Type 0) → (most : ℕ) → (bytes : List ℕ) → Stop → Type 0
IsListStop Spells most bytes stop =
    (number : ℕ) × IsBadLine Spells most (lines_of bytes) number × (stop ≡ Input (line_of_bad_line number))

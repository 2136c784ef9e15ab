-- What is asked for: the text of a query as bytes, and a number of rows; and why nothing can be.
use Rattle.std.specs.Prelude.{◌≡◌, ◌⊎◌, ◌<◌, ◌≤◌, ℕ, List}
use Rattle.std.specs.Str.{IsUtf8}
use Rattle.ats_terms.specs.Faults.{IsFirstFault}
use Rattle.ats_reader.specs.declared.fault.Fault.{Fault}
use Rattle.ats_reader.specs.declared.fault.Fault.TheVariants.{NoText, RowsOut, FewRows, NoQuery}

-- the bytes are no text, or the first reason for which the text is no query
abbrev pub IsReadFault : List ℕ → Fault → Type 0
IsReadFault text NoText = ¬ IsUtf8 text
IsReadFault text (NoQuery fault) = IsUtf8 text × IsFirstFault text fault
IsReadFault text _ = ⊥

-- the query is a text, and the number of rows is within its limits and the room
pub record IsAsked (text : List ℕ) (r room : ℕ) : Type 0 where
  pub utf8 : IsUtf8 text
  pub some : 1 ≤ r
  pub few : r ≤ 1000
  pub fits : r ≤ room

-- why no rows can be asked for, in the order in which it is found
abbrev pub IsAskedFault : List ℕ → ℕ → ℕ → Fault → Type 0
IsAskedFault text r room NoText = ¬ IsUtf8 text
IsAskedFault text r room (RowsOut told) = IsUtf8 text × (told ≡ r) × ((r ≡ 0) ⊎ (1000 < r))
IsAskedFault text r room (FewRows told) = IsUtf8 text × (told ≡ room) × (1 ≤ r) × (r ≤ 1000) × (room < r)
IsAskedFault text r room (NoQuery fault) = IsAsked text r room × IsFirstFault text fault
IsAskedFault text r room _ = ⊥

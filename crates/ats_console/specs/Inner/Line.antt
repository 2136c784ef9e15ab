-- The text of a line.
use Rattle.std.specs.Prelude.{ℕ, List}
use Rattle.ats_console.specs.declared.stop_lines.Text.{Text}
use Rattle.ats_console.specs.declared.stop_lines.Text.TheVariants.{PhraseLine, Made}

-- a line of a phrase, or bytes that were made before
abbrev pub text_of_line : Text → List ℕ
text_of_line (PhraseLine line) = line
text_of_line (Made bytes) = bytes.items

-- What a text shows of the texts tree before and after it was passed.
use Rattle.std.specs.Prelude.{List, [], if◌then◌else◌}
use Rattle.ats_tree.specs.Shown.{Shown}
use Rattle.ats_text_check.specs.Accepts.{shown_text}
use Rattle.ats_text_check.specs.declared.cursor.TextCursor.{TextCursor}

-- the text as a leaf, unless it was passed
abbrev pub leaves_left : TextCursor → List Shown
leaves_left cursor = if cursor.is_left then shown_text cursor.doc cursor.text.now else []

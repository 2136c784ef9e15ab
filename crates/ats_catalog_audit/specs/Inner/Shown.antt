-- All roots of a list, shown as the leaves of their tree.
use Rattle.std.specs.Prelude.{List, drop, length}
use Rattle.std.specs.List.{range_with_len}
use Rattle.ats_tree.specs.Elided.{shown_with}
use Rattle.ats_tree.specs.Shown.{Shown}
use Rattle.ats_catalog_audit.specs.declared.shown.ShownRoots.{ShownRoots}

-- the roots that were not passed, each at its number
abbrev pub leaves_left : ShownRoots → List Shown
leaves_left s = drop s.passed (shown_with s.roots.now (range_with_len 0 (length s.roots.now)))

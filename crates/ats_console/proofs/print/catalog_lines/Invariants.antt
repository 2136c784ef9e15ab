use Rattle.std.proofs.Common.{◌≡◌, ◌++◌, ◌+◌, drop}
use Rattle.ats_console.specs.Print.{lines_of_catalog, lines_of_catalog_from}
use Rattle.ats_console.proofs.print.catalog_lines.Given as goal

-- the lines so far and those of the rows that are left
abbrev pub invariant-loop-i : goal.invariant-loop-i
invariant-loop-i l = l.text.items ++ lines_of_catalog_from (l.i + 1) (drop l.i l.rows.rows) ≡ lines_of_catalog l.rows.rows

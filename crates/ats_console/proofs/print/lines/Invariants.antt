use Rattle.std.proofs.Common.{◌≡◌, ◌++◌, ◌+◌, drop}
use Rattle.ats_console.specs.Print.{lines, lines_from}
use Rattle.ats_console.proofs.print.lines.Given as goal

-- the lines so far and those of the rows that are left
abbrev pub invariant-loop-i : goal.invariant-loop-i
invariant-loop-i l = l.text.items ++ lines_from (l.i + 1) (drop l.i l.rows-2) ≡ lines l.rows-2

use Rattle.std.proofs.Common.{◌≡◌, ◌++◌, drop}
use Rattle.ats_console.specs.Print.{lines_of_documents}
use Rattle.ats_console.proofs.print.document_lines.Given as goal

-- the lines so far and those of the documents that are left
abbrev pub invariant-loop-i : goal.invariant-loop-i
invariant-loop-i l = l.text.items ++ lines_of_documents (drop l.i l.documents-2) ≡ lines_of_documents l.documents-2

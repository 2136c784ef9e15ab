use Rattle.std.proofs.Common.{◌≡◌, length, take, drop, map}
use Rattle.ats_reader.specs.Verdicts.{shown_catalog_row}
use Rattle.ats_reader.proofs.export.show_catalog_rows.Given as goal

-- the rows so far are shown, and the rest is as it was
abbrev pub invariant-loop-i : goal.invariant-loop-i
invariant-loop-i l = record {
  size : length l.room ≡ length l.initial.room;
  shown : take l.i l.room ≡ map shown_catalog_row (take l.i l.rows.rows);
  rest : drop l.i l.room ≡ drop l.i l.initial.room;
}

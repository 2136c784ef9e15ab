use Rattle.std.proofs.Common.{◌≡◌, length, take, drop, map}
use Rattle.ats_reader.specs.Verdicts.{shown_term}
use Rattle.ats_reader.proofs.export.show_terms.Given as goal

-- the terms so far are shown, and the rest is as it was
abbrev pub invariant-loop-i : goal.invariant-loop-i
invariant-loop-i l = record {
  size : length l.room ≡ length l.initial.room;
  shown : take l.i l.room ≡ map shown_term (take l.i l.query);
  rest : drop l.i l.room ≡ drop l.i l.initial.room;
}

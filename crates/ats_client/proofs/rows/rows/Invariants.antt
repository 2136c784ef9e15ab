use Rattle.std.proofs.Common.{◌≡◌, ◌+◌, ◌*◌, ◌≤◌, List, length, take}
use Rattle.ats_bound.specs.Cut.{ShownLane}
use Rattle.ats_bound.specs.Schedule.{Bounding}
use Rattle.ats_client.specs.Indexes.{AreNames}
use Rattle.ats_client.specs.Marked.{AreMarks, AreNoted}
use Rattle.ats_client.proofs.rows.rows.Given as goal

abbrev pub invariant-loop-row : goal.invariant-loop-row
invariant-loop-row l = record {
  names : AreNames (length l.proof.met) (take l.row l.proof.answer);
  noted : AreNoted (take l.row l.proof.answer) l.work.marks;
  size : length l.work.marks ≡ length l.initial.work.marks;
  marks : (bounds : Bounding) (lanes : List ShownLane) → AreMarks bounds lanes l.proof.met l.initial.work.marks → AreMarks bounds lanes l.proof.met l.work.marks;
  room : l.work.room ≡ l.initial.work.room;
  least : l.initial.steps ≤ l.steps;
  most : l.steps ≤ l.initial.steps + 3 * l.row;
}

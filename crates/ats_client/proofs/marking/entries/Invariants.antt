use Rattle.std.proofs.Common.{◌≡◌, ◌+◌, ◌*◌, ◌≤◌, ◌++◌, List, [], map, take}
use Rattle.ats_client.specs.Indexes.{AreNames}
use Rattle.ats_client.specs.Groups.{indexes_of}
use Rattle.ats_client.specs.Inner.SeenLists.{prefix_of}
use Rattle.ats_client.specs.Inner.Noting.{Note, note, AreNotes}
use Rattle.ats_client.proofs.marking.entries.Given as goal

abbrev pub invariant-loop-i : goal.invariant-loop-i
invariant-loop-i l = record {
  names : AreNames l.met (take l.i (indexes_of (prefix_of l.one.list).entries));
  notes : (notes : List Note) → AreNotes l.met notes (l.one.number + 1) [] l.fn.work.marks
      → AreNotes l.met (notes ++ map (note l.coefficient l.rest) (take l.i (prefix_of l.one.list).entries)) (l.one.number + 1)
      (take l.i (indexes_of (prefix_of l.one.list).entries)) l.work.marks;
  room : l.work.room ≡ l.fn.work.room;
  cost : l.steps ≤ l.fn.steps + 3 * l.i;
}

use Rattle.std.proofs.Common.{◌≡◌, length}
use Rattle.std.specs.List.{zip}
use Rattle.ats_terms.specs.Inner.Packed.{strings, ArePacked}
use Rattle.ats_terms.proofs.Runs.{AreRuns}
use Rattle.ats_terms.proofs.counts.runs.Given as goal

-- the runs of the terms so far
abbrev pub invariant-loop-i : goal.invariant-loop-i
invariant-loop-i l = record {
  packed : ArePacked l.bytes.items l.ends.items;
  paired : length l.counts.items ≡ length l.ends.items;
  runs : AreRuns l.sorted l.i (zip (strings l.bytes.items l.ends.items) l.counts.items);
}

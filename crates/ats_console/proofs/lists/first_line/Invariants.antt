use Rattle.std.proofs.Common.{◌≤◌, ◌-◌, length}
use Rattle.ats_console.proofs.ListLines.{NoneBefore}
use Rattle.ats_console.proofs.lists.first_line.Given as goal

abbrev pub invariant-bytes : goal.invariant-bytes
invariant-bytes l = (l.at ≤ length l.bytes) × NoneBefore l.bytes l.at

abbrev pub decreases-bytes : goal.decreases-bytes
decreases-bytes l = length l.bytes - l.at

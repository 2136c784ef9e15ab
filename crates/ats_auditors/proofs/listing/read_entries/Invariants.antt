use Rattle.std.proofs.Common.{length}
use Rattle.ats_console.proofs.Public.{AreRead}
use Rattle.ats_auditors.specs.Inner.Sweeping.{IsEntry}
use Rattle.ats_auditors.proofs.listing.read_entries.Given as goal

-- the lines so far were read
abbrev pub invariant-lines : goal.invariant-lines
invariant-lines l = AreRead IsEntry l.bytes l.rest l.entries.items

abbrev pub decreases-lines : goal.decreases-lines
decreases-lines l = length l.rest

use Rattle.std.proofs.Common.{◌≡◌, ◌++◌, map, take}
use Rattle.ats_lists.specs.Inner.Gathered.{renumbered}
use Rattle.ats_lists.proofs.gathering.append.Given as goal

-- the other run's entries so far are appended
abbrev pub invariant-loop-logged : goal.invariant-loop-logged
invariant-loop-logged l = l.log.items ≡ l.initial.log.items ++ map (renumbered l.numbers) (take l.logged-index l.more)

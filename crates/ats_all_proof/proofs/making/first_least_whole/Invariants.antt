use Rattle.std.proofs.Common.{◌≡◌, ◌++◌, drop}
use Rattle.ats_all_proof.specs.Made.{first_least_whole}
use Rattle.ats_all_proof.proofs.Cuts.{cut_after}
use Rattle.ats_all_proof.proofs.making.first_least_whole.Given as goal

-- the counts so far, and those that are to come, are all
abbrev pub invariant-loop-i : goal.invariant-loop-i
invariant-loop-i l = l.cut ++ cut_after l.has_whole (drop l.i l.counts) ≡ first_least_whole l.counts

use Rattle.std.proofs.Common.{◌++◌, ℕ, List, take}
use Rattle.std.specs.List.{flat_map}
use Rattle.ats_lists.specs.Leaf.{leaf_bytes}
use Rattle.ats_index.proofs.write.put_entries.Given as goal

-- the entries so far are put
abbrev pub invariant-loop-entry : goal.invariant-loop-entry
invariant-loop-entry g l = (about front : List ℕ) → g.W.Takes.has l.fn.to about front → g.W.Takes.has l.to about (front ++ flat_map leaf_bytes (take l.entry-index l.entries))

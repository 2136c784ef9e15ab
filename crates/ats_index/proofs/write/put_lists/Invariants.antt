use Rattle.std.proofs.Common.{◌++◌, ℕ, List, length, take}
use Rattle.std.specs.Int.{to_be_bytes, w32}
use Rattle.std.specs.List.{flat_map}
use Rattle.ats_index.specs.Spelling.{list_bytes}
use Rattle.ats_index.proofs.write.put_lists.Given as goal

-- the lists so far follow their number
abbrev pub invariant-loop-i : goal.invariant-loop-i
invariant-loop-i g l = (about front : List ℕ) → g.W.Takes.has l.fn.to about front
    → g.W.Takes.has l.to about (front ++ (to_be_bytes w32 (length l.lists) ++ flat_map list_bytes (take l.i l.lists)))

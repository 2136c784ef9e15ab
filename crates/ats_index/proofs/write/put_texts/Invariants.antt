use Rattle.std.proofs.Common.{◌++◌, ℕ, List, length, take}
use Rattle.std.specs.List.{flat_map}
use Rattle.ats_index.specs.Spelling.{front_bytes, text_bytes}
use Rattle.ats_index.proofs.write.put_texts.Given as goal

-- the texts so far follow the front
abbrev pub invariant-loop-doc : goal.invariant-loop-doc
invariant-loop-doc g l = (about front : List ℕ) → g.W.Takes.has l.fn.to about front
    → g.W.Takes.has l.to about (front ++ (front_bytes l.fn.format (length l.collection) ++ flat_map text_bytes (take l.doc l.collection)))

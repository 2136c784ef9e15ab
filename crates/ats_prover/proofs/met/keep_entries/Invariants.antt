use Rattle.std.proofs.Common.{◌≡◌, ◌++◌, map, take}
use Rattle.ats_postings.specs.declared.entry.Entry.{Entry}
use Rattle.ats_prover.proofs.met.keep_entries.Given as goal

-- the documents so far
abbrev pub invariant-loop-entry : goal.invariant-loop-entry
invariant-loop-entry l = l.met.items ≡ l.fn.met.items ++ map (λ (e : Entry). e.doc) (take l.entry-index l.entries)

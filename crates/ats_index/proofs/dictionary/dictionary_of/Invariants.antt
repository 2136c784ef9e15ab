use Rattle.std.proofs.Common.{◌≡◌, take, map}
use Rattle.ats_commit.specs.Trees.{dict_entry}
use Rattle.ats_index.proofs.dictionary.dictionary_of.Given as goal

-- the lists so far have their entries
abbrev pub invariant-loop-i : goal.invariant-loop-i
invariant-loop-i g l = l.dictionary ≡ map (dict_entry g.H.HashKind.hash l.fn.format) (take l.i l.lists)

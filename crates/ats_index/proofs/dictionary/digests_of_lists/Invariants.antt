use Rattle.std.proofs.Common.{◌≡◌, take}
use Rattle.ats_index.specs.Inner.Kept.{all_list_digests}
use Rattle.ats_index.proofs.dictionary.digests_of_lists.Given as goal

-- the lists so far have their digests
abbrev pub invariant-loop-i : goal.invariant-loop-i
invariant-loop-i g l = l.digests.items ≡ all_list_digests g.H.HashKind.hash l.format (take l.i l.lists)

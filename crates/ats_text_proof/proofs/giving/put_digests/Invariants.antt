use Rattle.std.proofs.Common.{◌≡◌, ◌++◌, take}
use Rattle.std.specs.List.{concat}
use Rattle.ats_text_proof.proofs.giving.put_digests.Given as goal

abbrev pub invariant-loop-digest : goal.invariant-loop-digest
invariant-loop-digest l = l.bytes ≡ l.fn.bytes ++ concat (take l.digest-index l.digest-items)

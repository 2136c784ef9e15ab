use Rattle.std.proofs.Common.{◌≡◌, ◌++◌, take}
use Rattle.std.specs.List.{concat}
use Rattle.ats_catalog_proof.proofs.writer.front.Given as goal

-- what comes before the roots, and the roots so far
abbrev pub invariant-loop-root : goal.invariant-loop-root
invariant-loop-root l = l.bytes ≡ l.initial.bytes ++ concat (take l.root-index l.roots)

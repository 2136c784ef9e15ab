use Rattle.std.proofs.Common.{◌≡◌, take, map}
use Rattle.ats_commit.specs.Trees.{leaf_of_terms}
use Rattle.ats_index.proofs.doc_leaves.leaves_of.Given as goal

-- the documents so far have leaves
abbrev pub invariant-loop-doc : goal.invariant-loop-doc
invariant-loop-doc g l = l.leaves.items ≡ map (leaf_of_terms g.H.HashKind.hash) (take l.doc l.terms)

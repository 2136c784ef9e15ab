use Rattle.std.proofs.Common.{arith}
use Rattle.ats_tree.proofs.NodeLemmas.{node-ours, node-theirs}
use Rattle.ats_tree.proofs.laws.nodes_are_shallow.Goals as goal

pub returns-clause-ours : goal.returns-clause-ours
returns-clause-ours g c leaves node few there = node-ours g.H.HashKind.hash 32 leaves node (omega arith) there

pub returns-clause-theirs : goal.returns-clause-theirs
returns-clause-theirs g c n shown ds few = node-theirs g.H.HashKind.hash 32 n shown ds (omega arith)

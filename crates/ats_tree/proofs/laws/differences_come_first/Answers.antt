use Rattle.ats_tree.specs.Strings.{node_string, node_strings}
use Rattle.ats_tree.proofs.Differences.{difference-first, difference-none}
use Rattle.ats_tree.proofs.Bound.{each-there}
use Rattle.ats_tree.proofs.laws.differences_come_first.Goals as goal

pub returns-clause-some : goal.returns-clause-some
returns-clause-some g c n shown ds leaves =
    difference-first (node_string g.H.HashKind.hash leaves) (node_strings g.H.HashKind.hash n shown ds)

pub returns-clause-none : goal.returns-clause-none
returns-clause-none g c n shown ds leaves =
    difference-none (node_string g.H.HashKind.hash leaves) (node_strings g.H.HashKind.hash n shown ds)

pub returns-clause-there : goal.returns-clause-there
returns-clause-there g c n shown ds leaves same = each-there g.H.HashKind.hash n shown ds leaves same

use Rattle.ats_tree.specs.Strings.{node_string, node_strings}
use Rattle.std.proofs.Common.{length}
use Rattle.ats_tree.specs.Elided.{shown_with, elided_digests}
use Rattle.ats_tree.proofs.OwnStrings.{own-strings, own-none}
use Rattle.ats_tree.proofs.laws.elided_digests_have_own_strings.Goals as goal

pub returns-clause-own : goal.returns-clause-own
returns-clause-own g c = own-strings g.H.HashKind.hash

pub returns-clause-none : goal.returns-clause-none
returns-clause-none g c leaves positions =
    let H = g.H.HashKind.hash in
    own-none H (node_string H leaves) (node_strings H (length leaves) (shown_with leaves positions) (elided_digests H leaves positions)) (own-strings H leaves positions)

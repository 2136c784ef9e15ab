use Rattle.std.proofs.Common.{◌<◌, length, arith, ◌∙◌}
use Rattle.ats_tree.proofs.KeptLemmas.{kept-first}
use Rattle.ats_tree.proofs.keeping.Nodes.root.Goals as goal

pub returns-clause-value : goal.returns-clause-value
returns-clause-value c H leaves same =
    let some : 0 < length c.self.inside.digests.items = omega (arith, c.self.invariant.odd)
    in kept-first H leaves c.self.inside.digests.items _ _ some c.index.ensures (c.self.view_is ∙ same)

use Rattle.std.proofs.Common.{arith, ◌∙◌}
use Rattle.ats_lists.proofs.KeptChains.{first-seen}
use Rattle.ats_lists.proofs.chain_keeping.Chain.root.Goals as goal

pub returns-clause-value : goal.returns-clause-value
returns-clause-value c H leaves same =
    c.index.ensures ∙ first-seen H leaves c.self.inside.digests.items (c.self.view_is ∙ same) 0 _ c.self.invariant.even (omega (arith, c.self.invariant.some))

use Rattle.std.proofs.Common.{ℕ, ◌*◌, ◌<◌, List, ◌++◌, length, ◌∙◌, ap, sym, arith}
use Rattle.ats_lists.proofs.KeptChains.{next-seen}
use Rattle.ats_lists.proofs.chain_keeping.Chain.elide_link.Goals as goal

pub returns-in_ok-push-clause-ok : goal.returns-in_ok-push-clause-ok
returns-in_ok-push-clause-ok c H leaves same =
    let run : List (List ℕ) = c.self.inside.digests.items
    in let inside : 128 * c.args.j < length run = omega (arith, c.if-at-len.true, c.len.ensures)
    in c.in_ok-push.ensures.ok
    ∙ ap (λ (ds : List (List ℕ)). c.args.out.now ++ ds) (sym (next-seen H leaves run (c.self.view_is ∙ same) c.args.j _ _ c.self.invariant.even inside c.index.ensures))

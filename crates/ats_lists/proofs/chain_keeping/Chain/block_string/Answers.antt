use Rattle.std.proofs.Common.{◌≡◌, ℕ, ◌+◌, ◌*◌, ◌/◌, ◌<◌, ◌≤◌, List, ◌∷◌, ◌++◌, length, refl, sym, ◌∙◌, ap₂, arith}
use Rattle.ats_tree.proofs.Public.{kept-first}
use Rattle.ats_lists.specs.Blocks.{blocks_in, block}
use Rattle.ats_lists.specs.KeptChain.{kept_chain}
use Rattle.ats_lists.specs.Inner.KeptChain.{chain_in}
use Rattle.ats_lists.proofs.ChainBinding.{chain-end}
use Rattle.ats_lists.proofs.KeptChains.{entries-seen, first-seen}
use Rattle.ats_lists.proofs.chain_keeping.Chain.block_string.Goals as goal

pub returns-then-next-len : goal.returns-then-next-len
returns-then-next-len c H leaves same =
    let run : List (List ℕ) = c.self.inside.digests.items
    in let kept : chain_in c.self.inside.digests.items ≡ kept_chain H leaves = c.self.view_is ∙ same
    in let some : 0 < length c.nodes-nodes.result.now = omega (arith, c.requires, c.nodes-nodes.ensures.count)
    in let inside : 128 * (c.args.j + 1) < length c.self.inside.digests.items = omega (arith, c.if-next-len.true, c.len.ensures)
    in c.tagged.ensures
    ∙ ap₂ (λ (root next : List ℕ). 3 ∷ root ++ next)
    (kept-first H (block leaves c.args.j) c.nodes-nodes.result.now _ _ some refl (c.nodes-nodes.ensures.value H leaves same))
    (c.index.ensures ∙ first-seen H leaves run kept (c.args.j + 1) _ c.self.invariant.even inside)

pub returns-else-next-len : goal.returns-else-next-len
returns-else-next-len c H leaves same =
    let run : List (List ℕ) = c.self.inside.digests.items
    in let kept : chain_in c.self.inside.digests.items ≡ kept_chain H leaves = c.self.view_is ∙ same
    in let count : length c.self.inside.digests.items / 2 ≡ length leaves = entries-seen H leaves run kept
    in let some : 0 < length c.nodes-nodes.result.now = omega (arith, c.requires, c.nodes-nodes.ensures.count)
    in let past : blocks_in (length leaves) ≤ c.args.j + 1 = omega (arith, c.if-next-len.false, c.len.ensures)
    in c.tagged-else-next-len.ensures
    ∙ ap₂ (λ (root next : List ℕ). 3 ∷ root ++ next)
    (kept-first H (block leaves c.args.j) c.nodes-nodes.result.now _ _ some refl (c.nodes-nodes.ensures.value H leaves same))
    (sym (chain-end H leaves (c.args.j + 1) past))

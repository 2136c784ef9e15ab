use Rattle.std.proofs.Common.{◌≡◌, ℕ, ◌+◌, ◌-◌, ◌*◌, ◌/◌, ◌<◌, List, length, take, drop, ◌∙◌, ap, arith}
use Rattle.ats_lists.specs.Blocks.{blocks_in}
use Rattle.ats_lists.specs.KeptChain.{ChainDigests, kept_chain}
use Rattle.ats_lists.specs.Inner.KeptChain.{chain_in}
use Rattle.ats_lists.proofs.KeptChains.{entries-seen, nodes-there, nodes-seen}
use Rattle.ats_lists.proofs.chain_keeping.Chain.nodes.Goals as goal

pub returns-clause-value : goal.returns-clause-value
returns-clause-value c H leaves same =
    let run : List (List ℕ) = c.self.inside.digests.items
    in let kept : chain_in c.self.inside.digests.items ≡ kept_chain H leaves = c.self.view_is ∙ same
    in let count : length c.self.inside.digests.items / 2 ≡ length leaves = entries-seen H leaves run kept
    in let entries : c.args.self.now.entries ≡ length leaves = ap (λ (s : ChainDigests). s.entries) same
    in let less : c.args.j < blocks_in (length leaves) = omega (arith, c.requires)
    in let inside : 128 * c.args.j < length c.self.inside.digests.items = omega arith
    in ap (λ (ds : List (List ℕ)). take (c.min-end.result - (128 * c.args.j + 1)) (drop (128 * c.args.j + 1) ds)) c.deref.ensures.value
    ∙ nodes-there run c.args.j c.min-end.result (omega (arith, c.min-end.ensures, c.len.ensures)) inside
    ∙ nodes-seen H leaves run kept c.args.j less

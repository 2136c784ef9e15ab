use Rattle.std.proofs.Common.{◌≡◌, ℕ, ◌+◌, ◌*◌, ◌≤◌, List, length, take, drop, ◌∙◌, ap, sym, subst, arith, IsTrue}
use Rattle.std.specs.List.{All}
use Rattle.std.specs.List.Sorted.{IsStrictlyIncreasing}
use Rattle.ats_tree.specs.Elided.{elided_digests}
use Rattle.ats_lists.specs.Blocks.{block}
use Rattle.ats_lists.proofs.Fronts.{range-rises}
use Rattle.ats_lists.proofs.KeptChains.{first-range, range-nodes}
use Rattle.ats_lists.proofs.chain_keeping.Chain.begins_with_nodes.Goals as goal

pub begins_with_elided-requires-clause-rising : goal.begins_with_elided-requires-clause-rising
begins_with_elided-requires-clause-rising g c =
    subst IsStrictlyIncreasing (sym (first-range c.first_positions-all.result c.args.count c.first_positions-all.ensures (omega (arith, c.requires.within)))) (range-rises c.args.count)

pub begins_with_elided-requires-clause-below : goal.begins_with_elided-requires-clause-below
begins_with_elided-requires-clause-below g c =
    let within : 2 * c.args.count ≤ length c.nodes.result.now + 1 = omega (arith, c.requires.within, c.nodes.ensures.count)
    in subst (λ (ps : List ℕ). All (λ p. 2 * p + 1 ≤ length c.nodes.result.now) ps)
    (sym (first-range c.first_positions-all.result c.args.count c.first_positions-all.ensures (omega (arith, c.requires.within))))
    (range-nodes c.args.count (length c.nodes.result.now) within)

pub returns-clause-exact : goal.returns-clause-exact
returns-clause-exact g c H leaves same =
    let ds : List (List ℕ) = g.S.PartialTree.digests c.args.shown.now
    in let e : List ℕ → List (List ℕ) = λ ps. elided_digests H (block leaves c.args.j) ps
    in let Exact : List ℕ → Type 0 = λ ps.
    (IsTrue c.begins_with_elided.result → take (length (e ps)) ds ≡ e ps) × (take (length (e ps)) ds ≡ e ps → IsTrue c.begins_with_elided.result)
    in subst Exact (first-range c.first_positions-all.result c.args.count c.first_positions-all.ensures (omega (arith, c.requires.within)))
    (c.begins_with_elided.ensures.exact H (block leaves c.args.j) (c.nodes.ensures.value H leaves same))

pub returns-clause-left : goal.returns-clause-left
returns-clause-left g c H leaves same holds =
    c.begins_with_elided.ensures.left H (block leaves c.args.j) (c.nodes.ensures.value H leaves same) holds
    ∙ ap (λ (ps : List ℕ). drop (length (elided_digests H (block leaves c.args.j) ps)) (g.S.PartialTree.digests c.args.shown.now))
    (first-range c.first_positions-all.result c.args.count c.first_positions-all.ensures (omega (arith, c.requires.within)))

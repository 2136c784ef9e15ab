use Rattle.std.proofs.Common.{ℕ, ◌+◌, ◌*◌, ◌≤◌, List, ◌++◌, length, ◌∙◌, ap, sym, subst, arith}
use Rattle.std.specs.List.{All}
use Rattle.std.specs.List.Sorted.{IsStrictlyIncreasing}
use Rattle.ats_tree.specs.Elided.{elided_digests}
use Rattle.ats_lists.specs.Blocks.{block}
use Rattle.ats_lists.proofs.Fronts.{range-rises}
use Rattle.ats_lists.proofs.KeptChains.{first-range, range-nodes, front-more}
use Rattle.ats_lists.proofs.chain_keeping.Chain.elide_nodes.Goals as goal

pub elide_kept-requires-clause-rising : goal.elide_kept-requires-clause-rising
elide_kept-requires-clause-rising c =
    subst IsStrictlyIncreasing (sym (first-range c.first_positions-all.result c.args.count c.first_positions-all.ensures (omega (arith, c.requires.within)))) (range-rises c.args.count)

pub elide_kept-requires-clause-below : goal.elide_kept-requires-clause-below
elide_kept-requires-clause-below c =
    let within : 2 * c.args.count ≤ length c.nodes.result.now + 1 = omega (arith, c.requires.within, c.nodes.ensures.count)
    in subst (λ (ps : List ℕ). All (λ p. 2 * p + 1 ≤ length c.nodes.result.now) ps)
    (sym (first-range c.first_positions-all.result c.args.count c.first_positions-all.ensures (omega (arith, c.requires.within))))
    (range-nodes c.args.count (length c.nodes.result.now) within)

pub returns-clause-ok : goal.returns-clause-ok
returns-clause-ok c H leaves same =
    c.in_ok-elide_kept.ensures.ok H (block leaves c.args.j) (c.nodes.ensures.value H leaves same)
    ∙ ap (λ (ps : List ℕ). c.args.out.now ++ elided_digests H (block leaves c.args.j) ps)
    (first-range c.first_positions-all.result c.args.count c.first_positions-all.ensures (omega (arith, c.requires.within)))

pub returns-clause-front : goal.returns-clause-front
returns-clause-front c = front-more c.args.out.now c.elide_kept.new.out _ c.in_ok-elide_kept.ensures.places

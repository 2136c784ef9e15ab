use Rattle.std.proofs.Common.{◌≡◌, ℕ, ◌+◌, ◌*◌, ◌/◌, ◌≤◌, List, length, sym, subst, ap, ◌∙◌, arith}
use Rattle.std.specs.List.{All}
use Rattle.std.specs.List.Sorted.{IsStrictlyIncreasing}
use Rattle.ats_lists.specs.KeptList.{entries_of}
use Rattle.ats_lists.proofs.Fronts.{range-rises}
use Rattle.ats_lists.proofs.KeptChains.{range-nodes}
use Rattle.ats_lists.proofs.list_keeping.ListDigests.front.Goals as goal

pub elided-requires-clause-rising : goal.elided-requires-clause-rising
elided-requires-clause-rising c =
    subst IsStrictlyIncreasing (sym (c.deref.ensures.value ∙ c.in_ok-positions-in-Tree.ensures)) (range-rises c.args.k)

pub elided-requires-clause-below : goal.elided-requires-clause-below
elided-requires-clause-below c =
    let number : entries_of c.args.self.now ≡ (length c.in-Tree.nodes + 1) / 2 = ap entries_of c.in-Tree.is
    in let within : 2 * c.args.k ≤ length c.in-Tree.nodes + 1 = omega (arith, c.requires.within)
    in subst (λ (ps : List ℕ). All (λ p. 2 * p + 1 ≤ length c.in-Tree.nodes) ps)
    (sym (c.deref.ensures.value ∙ c.in_ok-positions-in-Tree.ensures))
    (range-nodes c.args.k (length c.in-Tree.nodes) within)

use Rattle.std.proofs.Common.{◌≡◌, ◌++◌, map, ap, ap₂, ◌∙◌}
use Rattle.ats_lists.specs.Inner.Gathered.{Pairs, pairs_of, renumbered}
use Rattle.ats_lists.proofs.LogLemmas.{pairs_joined, log_joined}
use Rattle.ats_lists.proofs.gathering.Gathered.join.Goals as goal

pub append-requires : goal.append-requires
append-requires c = rw (c.deref.ensures.value, c.deref-2.ensures.value, c.in_ok-numbers.ensures.size) c.next.invariant.inside

pub invariant_of-result : goal.invariant_of-result
invariant_of-result c =
    rw (c.in_ok-append.ensures, c.deref.ensures.value, c.deref-2.ensures.value)
    (log_joined c.self.inside.numbering c.next.inside.numbering c.renumber.new.numbering c.in_ok-numbers.numbers.items c.in_ok-numbers.ensures
    c.self.inside.log.items c.next.inside.log.items c.self.invariant c.next.invariant)

pub returns : goal.returns
returns c =
    let log : c.append.new.log.items ≡ c.self.inside.log.items ++ map (renumbered c.in_ok-numbers.numbers.items) c.next.inside.log.items =
    rw (c.deref.ensures.value, c.deref-2.ensures.value) at c.in_ok-append.ensures in
    ap (pairs_of c.renumber.new.numbering) log
    ∙ pairs_joined c.self.inside.numbering c.next.inside.numbering c.renumber.new.numbering c.in_ok-numbers.numbers.items c.in_ok-numbers.ensures
    c.self.inside.log.items c.next.inside.log.items c.self.invariant c.next.invariant
    ∙ ap₂ (λ (front back : Pairs). front ++ back) c.self.view_is c.next.view_is

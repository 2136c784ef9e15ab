use Rattle.std.proofs.Common.{◌≡◌, ◌<◌, length, get_or, take, ap, ◌∙◌, arith, length-take, take_all}
use Rattle.std.proofs.lemmas.List.{get_or_default}
use Rattle.ats_terms.specs.Terms.{occurrences}
use Rattle.ats_impact.proofs.Occurrences.{term_at, occurs_few, counted_all}
use Rattle.ats_impact.proofs.scores.count_terms.Goals as goal

pub count_term-requires-clause-space : goal.count_term-requires-clause-space
count_term-requires-clause-space c k d inside =
    let items = c.loop-i.items.items in
    let seen = take c.loop-i.i c.args.terms.now in
    let at : get_or c.deref_mut.result.now k d ≡ get_or items k 0 =
    get_or_default c.deref_mut.result.now k d 0 inside ∙ ap (λ xs. get_or xs k 0) c.deref_mut.ensures.value in
    let within : k < length c.args.query.now = omega (arith, c.loop-i.invariant.same, ap length c.deref_mut.ensures.value) in
    let is = c.loop-i.invariant.each k within in
    omega (arith, at, is, occurs_few (term_at c.args.query.now k) seen, length-take c.loop-i.i c.args.terms.now, c.requires)

pub returns : goal.returns
returns c =
    let all = take_all c.loop-i.i c.args.terms.now (omega (arith, c.len-i-end.ensures)) in
    counted_all c.args.query.now c.loop-i.items.items c.args.terms.now c.loop-i.invariant.same
    (λ k within. c.loop-i.invariant.each k within ∙ ap (occurrences (term_at c.args.query.now k)) all)

use Rattle.std.proofs.Common.{◌<◌, ◌-◌, ◌∙◌, [], ℕ, List, length, ap, sym, arith}
use Rattle.ats_impact.specs.Numbers.{impact}
use Rattle.ats_doctree.proofs.Counts.{item_of_count, length-with_impacts}
use Rattle.ats_doctree.proofs.doc_terms.DocTerms.impact.Goals as goal

pub impact-requires-clause-within : goal.impact-requires-clause-within
impact-requires-clause-within c =
    let size = ap length c.self.view_is in
    let inside : c.args.p - 1 < length c.self.inside.counts = omega (
      arith,
      size,
      c.requires,
      c.if-p-len.false,
      c.len.ensures.value,
      length-with_impacts c.self.inside.total c.self.inside.len c.self.inside.documents c.self.inside.counts,
    ) in
    omega (arith, c.count-count.ensures.value ([], 0), c.self.invariant.within (c.args.p - 1) ([], 0) inside)

pub returns-clause-value : goal.returns-clause-value
returns-clause-value c =
    c.impact.ensures.value
    ∙ ap (λ n. impact n c.self.inside.total c.self.inside.len c.self.inside.documents) (c.count-count.ensures.value ([], 0))
    ∙ ap (λ (item : List ℕ × ℕ). item.1)
    (sym (item_of_count c.self.inside.total c.self.inside.len c.self.inside.documents c.self.inside.counts c.args.self.now c.args.p c.self.view_is
    (omega arith) c.requires (omega (arith, c.if-p-len.false, c.len.ensures.value))))

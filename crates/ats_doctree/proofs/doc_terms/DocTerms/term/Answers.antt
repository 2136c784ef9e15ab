use Rattle.std.proofs.Common.{◌∙◌, [], ℕ, List, ap, sym, arith}
use Rattle.ats_doctree.proofs.Counts.{item_of_count, high_at}
use Rattle.ats_doctree.proofs.doc_terms.DocTerms.term.Goals as goal

pub returns-then-i-len-clause-value : goal.returns-then-i-len-clause-value
returns-then-i-len-clause-value c =
    ap (λ (item : List ℕ × ℕ). item.0)
    (sym (high_at c.self.inside.total c.self.inside.len c.self.inside.documents c.self.inside.counts c.args.self.now c.args.p c.self.view_is
    (omega (arith, c.if-p-eq0.false, c.if-i-len.true, c.len.ensures.value))))

pub returns-clause-value : goal.returns-clause-value
returns-clause-value c =
    c.term.ensures.value ([], 0)
    ∙ ap (λ (item : List ℕ × ℕ). item.0)
    (sym (item_of_count c.self.inside.total c.self.inside.len c.self.inside.documents c.self.inside.counts c.args.self.now c.args.p c.self.view_is
    (omega arith) c.requires (omega (arith, c.if-i-len.false, c.len.ensures.value))))

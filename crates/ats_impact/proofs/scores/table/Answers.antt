use Rattle.std.proofs.Common.{[], ap, ◌∙◌, arith}
use Rattle.std.proofs.lemmas.List.{get_or_read}
use Rattle.ats_impact.specs.Inner.Score.{counts}
use Rattle.ats_impact.proofs.Occurrences.{made_more}
use Rattle.ats_impact.proofs.scores.table.Goals as goal

pub loop-document-preserved : goal.loop-document-preserved
loop-document-preserved c =
    let documents = c.args.documents.now in
    let document = c.document-item.result in
    let i = c.loop-document.document-index in
    let here = get_or_read documents i document (omega arith) c.document-item.is [] in
    rw c.in_ok-push.ensures.items
    (made_more (counts c.args.query.now) documents i [] c.loop-document.table.items _ (omega arith) c.loop-document.invariant
    (rw c.terms.ensures.value at c.in_ok-count_terms.ensures ∙ ap (counts c.args.query.now) here))

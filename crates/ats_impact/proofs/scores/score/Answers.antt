use Rattle.std.proofs.Common.{◌≡◌, ◌<◌, [], length, get_or, ap, ◌∙◌, arith}
use Rattle.std.proofs.lemmas.List.{get_or-map}
use Rattle.std.proofs.lemmas.List.Sums.{sum_by_more}
use Rattle.ats_terms.specs.Terms.{terms, occurrences}
use Rattle.ats_impact.specs.Score.{coefficient, part}
use Rattle.ats_impact.proofs.Occurrences.{term_at, occurs_few, count_at}
use Rattle.ats_impact.proofs.scores.score.Goals as goal

pub part-sum-requires-clause-within : goal.part-sum-requires-clause-within
part-sum-requires-clause-within c =
    let query = c.args.query.now in
    let text = c.args.document.now in
    let k = c.loop-k.k in
    let here : c.get.result ≡ occurrences (term_at query k) (terms text) =
    c.get.ensures ∙ ap (λ xs. get_or xs k 0) c.requires.counted ∙ count_at query text k (omega (arith, c.len-k-end.ensures.value)) in
    omega (arith, here, occurs_few (term_at query k) (terms text))

pub loop-k-preserved : goal.loop-k-preserved
loop-k-preserved c =
    let texts = c.args.collection.now in
    let query = c.args.query.now in
    let text = c.args.document.now in
    let k = c.loop-k.k in
    let inside : k < length query = omega (arith, c.len-k-end.ensures.value) in
    let found : c.get.result ≡ occurrences (term_at query k) (terms text) =
    c.get.ensures ∙ ap (λ xs. get_or xs k 0) c.requires.counted ∙ count_at query text k inside in
    let factor : get_or c.args.coefficients.now k 0 ≡ coefficient texts (get_or query k ([], 0)) =
    ap (λ xs. get_or xs k 0) c.requires.coefficients ∙ get_or-map (coefficient texts) query k ([], 0) 0 inside in
    let value = c.part-sum.ensures.value (get_or query k ([], 0)) factor found in
    let more = sum_by_more (part texts text) query k ([], 0) inside in
    record {
      sum = omega (arith, c.loop-k.invariant.sum, value, more);
      small = omega (arith, c.loop-k.invariant.small, c.part-sum.ensures.small);
    }

use Rattle.std.proofs.Common.{◌≡◌, ◌<◌, ◌*◌, ◌^◌, ℕ, List, [], length, get_or, count_by, nat_lt, ap, ap₂, ◌∙◌, arith}
use Rattle.std.proofs.lemmas.List.Elements.{All-push}
use Rattle.ats_impact.specs.Numbers.{idf}
use Rattle.ats_impact.specs.Score.{coefficient, frequency}
use Rattle.ats_impact.proofs.Occurrences.{term_at, made_more, frequency_by_table, rows_long}
use Rattle.ats_impact.proofs.Parts.{small_product}
use Rattle.ats_impact.proofs.scores.coefficients.Goals as goal

pub loop-k-preserved : goal.loop-k-preserved
loop-k-preserved c =
    let texts = c.args.collection.now in
    let query = c.args.query.now in
    let k = c.loop-k.k in
    let pair = get_or query k ([], 0) in
    let inside : k < length query = omega (arith, c.len-k-end.ensures.value) in
    let found : c.frequency.result ≡ frequency (term_at query k) texts =
    c.frequency.ensures ∙ ap (count_by (λ (row : List ℕ). nat_lt 0 (get_or row k 0))) c.requires ∙ frequency_by_table query texts k inside in
    let second : c.idf-idf.result ≡ idf (length texts) (frequency (term_at query k) texts) =
    c.idf-idf.ensures.value ∙ ap₂ idf c.documents-n.ensures.value found in
    let made : c.from.result * c.from-in-loop-k.result ≡ coefficient texts pair =
    ap₂ (λ w i. w * i) (c.from.ensures ∙ c.weight.ensures.value ([], 0)) (c.from-in-loop-k.ensures ∙ second) in
    let small : c.from.result * c.from-in-loop-k.result < 2 ^ 40 = small_product c.from.result c.from-in-loop-k.result (omega (arith, c.from.ensures, c.weight.type_inv)) (omega (arith, c.from-in-loop-k.ensures, c.idf-idf.type_inv)) in
    record {
      made = rw c.in_ok-push.ensures.items (made_more (coefficient texts) query k ([], 0) c.loop-k.coefficients.items _ inside c.loop-k.invariant.made made);
      small = rw c.in_ok-push.ensures.items (All-push (λ (x : ℕ). x < 2 ^ 40) c.loop-k.coefficients.items _ c.loop-k.invariant.small small);
    }

pub frequency-requires-clause-inside : goal.frequency-requires-clause-inside
frequency-requires-clause-inside c =
    rw c.requires (rows_long c.args.query.now c.args.collection.now c.loop-k.k (omega (arith, c.len-k-end.ensures.value)))

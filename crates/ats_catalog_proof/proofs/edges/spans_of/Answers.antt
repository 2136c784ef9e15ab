use Rattle.std.proofs.Common.{◌≡◌, ◌∙◌, ◌+◌, ◌<◌, ◌++◌, ◌∷◌, [], ℕ, List, length, min, ap, ap₂, sym, take, arith, length-take}
use Rattle.ats_bound.specs.declared.span.Span.{Span}
use Rattle.ats_catalog_honest.specs.Ranking.{Ranked, edge}
use Rattle.ats_catalog_honest.specs.Shares.{span_of}
use Rattle.ats_catalog_proof.proofs.Sharing.{other_more, own_more, spans_few, spans_from, take_shown}
use Rattle.ats_catalog_proof.proofs.edges.spans_of.Goals as goal
use Rattle.ats_catalog_proof.proofs.edges.spans_of.Goals.{then-shard+in_ok-push, else-shard}

pub loop-place-preserved : goal.loop-place-preserved
loop-place-preserved c =
    let rows : List Ranked = c.args.rows.now in
    let shard : ℕ = c.args.shard in
    let place : ℕ = c.loop-place.place in
    let row : Ranked = c.index-rows-place.result in
    let edges : ℕ → ℕ = edge (λ _. c.args.algorithm) c.args.top rows in
    let low : place < length rows = omega (arith, c.loop-place-test.true, c.min-shown.ensures) in
    elim c.if-shard.branch [
      | then-shard+in_ok-push w ↦
          let lower : w.edge.result ≡ edges (place + 1) = w.edge.ensures in
          let upper : w.edge-then-shard.result ≡ edges place = w.edge-then-shard.ensures in
          let span : record { lower = w.edge.result; upper = w.edge-then-shard.result } ≡ span_of edges place =
          ap₂ (λ (a b : ℕ). let one : Span = record { lower = a; upper = b } in one) lower upper in
          rw w.spans-is (w.in_ok-push.ensures.items ∙ ap₂ (λ (spans : List Span) (one : Span). spans ++ one ∷ []) c.loop-place.invariant span
          ∙ own_more edges shard rows place row low c.index-rows-place.is (sym c.shard.ensures ∙ w.if-shard.true))
      | else-shard w ↦
          rw w.spans-is (c.loop-place.invariant ∙ other_more edges shard rows place row low c.index-rows-place.is (λ own. w.if-shard.false (c.shard.ensures ∙ own)))
    ]

pub returns-clause-value : goal.returns-clause-value
returns-clause-value c =
    let rows : List Ranked = c.args.rows.now in
    let shown : c.loop-place.place ≡ min (length rows) c.args.top =
    omega (arith, c.loop-place-test.false, c.loop-place.auto.place-end, c.min-shown.ensures, c.get.ensures.value) in
    c.loop-place.invariant ∙ ap (spans_from (edge (λ _. c.args.algorithm) c.args.top rows) c.args.shard) (take_shown c.args.top c.loop-place.place rows shown)

pub returns-clause-few : goal.returns-clause-few
returns-clause-few c =
    let rows : List Ranked = c.args.rows.now in
    let place : ℕ = c.loop-place.place in
    let few = spans_few (edge (λ _. c.args.algorithm) c.args.top rows) c.args.shard (take place rows) in
    omega (arith, ap length c.loop-place.invariant, few, length-take place rows, c.loop-place.auto.place-end, c.min-shown.ensures, c.get.ensures.few)

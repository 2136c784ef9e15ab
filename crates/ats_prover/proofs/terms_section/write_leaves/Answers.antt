use Rattle.std.proofs.Common.{◌≡◌, ◌<◌, ◌∷◌, [], ℕ, List, length, map, get_or, ap, ap₂, ◌∙◌, arith}
use Rattle.std.specs.List.{concat}
use Rattle.ats_proof.specs.Written.{Written, after}
use Rattle.ats_proof.specs.Records.{term_leaf_record}
use Rattle.ats_proof.specs.Parts.{spelled}
use Rattle.ats_proof.specs.Value.{term_fields}
use Rattle.ats_honest.specs.Documents.{shown_term}
use Rattle.ats_prover.proofs.Records.{term_is}
use Rattle.ats_prover.proofs.Putting.{put_made}
use Rattle.ats_prover.proofs.terms_section.write_leaves.Goals as goal

pub term_leaf-requires-clause-few : goal.term_leaf-requires-clause-few
term_leaf-requires-clause-few c = omega (arith, c.loop-p.invariant.size, c.requires.space, c.requires.few, c.loop-p-test.true, c.term.ensures.few)

pub loop-p-preserved : goal.loop-p-preserved
loop-p-preserved c =
    let i = c.loop-p.p-index in
    let items = c.args.terms.now in
    let positions = c.args.positions.now in
    let p = get_or positions i 0 in
    let inside : i < length positions = omega (arith, c.loop-p-test.true) in
    let term : List ℕ = c.term.result.now in
    let impact : ℕ = c.impact.result in
    let bytes : List ℕ = term_leaf_record p term impact in
    let same : bytes ≡ concat (term_fields (shown_term items p)) =
    term_is p term impact (omega (arith, c.type_inv.positions i)) (omega (arith, c.impact.ensures.few))
    ∙ ap₂ (λ (t : List ℕ) (m : ℕ). concat (term_fields (record { position = p; term = (t, m) }))) c.term.ensures.value c.impact.ensures.value in record {
      fields = c.in_ok-term_leaf.ensures.ok ∙ ap (λ (w : Written). after w bytes) c.loop-p.invariant.fields
          ∙ put_made term_fields (shown_term items) c.args.writer.now (spelled 2 (length (map (shown_term items) positions)) ∷ []) positions i 0 bytes inside same;
      size = omega (arith, c.in_ok-term_leaf.ensures.size, c.loop-p.invariant.size, c.term.ensures.few);
    }

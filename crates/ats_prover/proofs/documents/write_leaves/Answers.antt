use Rattle.std.proofs.Common.{◌≡◌, ◌+◌, ◌<◌, ◌^◌, ◌++◌, ◌∷◌, [], ℕ, List, length, map, take, get_or, sym, ap, subst, ◌∙◌, arith, add-one}
use Rattle.std.specs.List.{All}
use Rattle.std.proofs.Math.Seq.{take-suc}
use Rattle.std.proofs.lemmas.List.{length-map, get_or-map}
use Rattle.std.proofs.lemmas.List.Elements.{All-push}
use Rattle.ats_doctree.specs.Sentinels.{terms_leaves}
use Rattle.ats_doctree.specs.declared.doc_leaf.DocLeaf.{DocLeaf}
use Rattle.ats_proof.specs.Written.{Written, after}
use Rattle.ats_proof.specs.Records.{doc_leaf_record}
use Rattle.ats_proof.specs.Value.{doc_fields}
use Rattle.ats_honest.specs.Documents.{document_leaf}
use Rattle.ats_prover.proofs.Records.{doc_is}
use Rattle.ats_prover.proofs.Putting.{put_more}
use Rattle.ats_prover.proofs.documents.write_leaves.Goals as goal

abbrev IsSmall : DocLeaf → Type 0
IsSmall leaf = leaf.leaves < 2 ^ 32

pub loop-doc-preserved : goal.loop-doc-preserved
loop-doc-preserved g c =
    let made : ℕ → DocLeaf = document_leaf g.H.HashKind.hash c.args.index.now.texts in
    let met = c.args.met.now in
    let i = c.loop-doc.doc-index in
    let doc = get_or met i 0 in
    let leaf : DocLeaf = c.doc_leaf.result.now in
    let none : DocLeaf = record { leaves = 0; root = [] } in
    let inside : i < length met = omega (arith, c.loop-doc-test.true) in
    let within : i < length (map made met) = omega (arith, inside, length-map met made) in
    let at : leaf ≡ get_or (map made met) i none = c.doc_leaf.ensures ∙ sym (get_or-map made met i 0 none inside) in
    let few : leaf.leaves < 2 ^ 32 = omega (arith, ap (λ (l : DocLeaf). l.leaves) c.doc_leaf.ensures, c.len.ensures.value, c.len.ensures.few, ap (λ (items : List (List ℕ × ℕ)). length (terms_leaves items)) c.doc_terms.ensures) in
    let next : take (i + 1) (map made met) ≡ take i (map made met) ++ leaf ∷ [] =
    rw (add-one, take-suc (map made met) i none within) (ap (λ (x : DocLeaf). take i (map made met) ++ x ∷ []) (sym at)) in record {
      fields = c.in_ok-doc_leaf.ensures.ok ∙ ap (λ (w : Written). after w (doc_leaf_record leaf)) c.loop-doc.invariant.fields
          ∙ put_more doc_fields c.args.writer.now [] (map made met) i leaf none (doc_leaf_record leaf) within at (doc_is leaf few);
      small = subst (All IsSmall) (sym next) (All-push IsSmall (take i (map made met)) leaf c.loop-doc.invariant.small few);
      size = omega (arith, c.in_ok-doc_leaf.ensures.size, c.loop-doc.invariant.size);
    }

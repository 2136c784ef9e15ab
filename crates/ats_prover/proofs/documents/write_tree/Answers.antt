use Rattle.std.proofs.Common.{◌≡◌, ◌≤◌, ◌++◌, ◌∷◌, [], ℕ, List, length, map, sym, ap, ◌∙◌, arith, append-nil, append_assoc}
use Rattle.std.specs.List.{flat_map}
use Rattle.std.proofs.lemmas.Result.{on_ok_weaker}
use Rattle.ats_tree.specs.Elided.{elided_digests}
use Rattle.ats_commit.specs.Trees.{documents_of}
use Rattle.ats_proof.specs.Records.{count32_record}
use Rattle.ats_proof.specs.Written.{Written, after}
use Rattle.ats_proof.specs.Parts.{counted, spelled}
use Rattle.ats_proof.specs.Value.{digest_fields, doc_fields}
use Rattle.ats_honest.specs.Documents.{document_leaf}
use Rattle.ats_prover.specs.Inner.Writing.{put}
use Rattle.ats_honest.proofs.Public.{documents_few, documents_each}
use Rattle.ats_prover.proofs.KeptDigests.{kept_positions}
use Rattle.ats_prover.proofs.Putting.{put_put, started}
use Rattle.ats_proof.proofs.Public.{spelled_4}
use Rattle.ats_prover.proofs.documents.write_tree.Goals as goal

few_out : (H : List ℕ → List ℕ) (texts : List (List ℕ)) (met : List ℕ) (none out : List (List ℕ)) → length texts ≤ 65536 → none ≡ [] → out ≡ none ++ elided_digests H (documents_of H texts) met → length out ≤ 65536
few_out H texts met none out few empty is =
    let all = documents_few H (documents_of H texts) met (omega (arith, documents_each H texts, few)) in
    omega (arith, all, ap (λ (ds : List (List ℕ)). length ds) is, ap (λ (ds : List (List ℕ)). length (ds ++ elided_digests H (documents_of H texts) met)) empty)

pub elided-requires-clause-below : goal.elided-requires-clause-below
elided-requires-clause-below g c =
    let H = g.H.HashKind.hash in
    let texts = c.args.index.now.texts in
    kept_positions H (documents_of H texts) c.docs_nodes.result.now c.args.met.now c.docs_nodes.ensures
    (λ k d inside. omega (arith, c.requires.within k d inside, documents_each H texts))

pub write_each_digest-requires-clause-started : goal.write_each_digest-requires-clause-started
write_each_digest-requires-clause-started g c = started c.write_leaves.new.writer c.count32.new.self _ c.in_ok-count32.ensures.ok

pub overflow_cast-len : goal.overflow_cast-len
overflow_cast-len g c =
    omega (
      arith,
      c.len.ensures,
      few_out g.H.HashKind.hash c.args.index.now.texts c.args.met.now c.new-digests.result c.elided.new.out c.collection.ensures.texts.within.few c.new-digests.ensures
          (c.in_ok-elided.ensures.ok g.H.HashKind.hash (documents_of g.H.HashKind.hash c.args.index.now.texts) c.docs_nodes.ensures),
    )

pub write_each_digest-requires-clause-few : goal.write_each_digest-requires-clause-few
write_each_digest-requires-clause-few g c =
    few_out g.H.HashKind.hash c.args.index.now.texts c.args.met.now c.new-digests.result c.elided.new.out c.collection.ensures.texts.within.few c.new-digests.ensures
    (c.in_ok-elided.ensures.ok g.H.HashKind.hash (documents_of g.H.HashKind.hash c.args.index.now.texts) c.docs_nodes.ensures)

pub returns-clause-fields : goal.returns-clause-fields
returns-clause-fields g c =
    let H = g.H.HashKind.hash in
    let texts = c.args.index.now.texts in
    let met = c.args.met.now in
    let elided = elided_digests H (documents_of H texts) met in
    let out : List (List ℕ) = c.elided.new.out in
    let more = c.in_ok-elided.ensures.ok H (documents_of H texts) c.docs_nodes.ensures in
    let all : out ≡ elided = more ∙ ap (λ (ds : List (List ℕ)). ds ++ elided) c.new-digests.ensures in
    let few : length out ≤ 65536 = few_out H texts met c.new-digests.result out c.collection.ensures.texts.within.few c.new-digests.ensures more in
    let leaves : List (List ℕ) = flat_map doc_fields (map (document_leaf H texts) met) in
    let n : ℕ = length out in
    let number : List (List ℕ) = spelled 4 n ∷ [] in
    let counted_is = c.in_ok-count32.ensures.ok ∙ ap (λ (k : ℕ). after c.write_leaves.new.writer (count32_record k)) c.len.ensures
    ∙ ap (after c.write_leaves.new.writer) (spelled_4 n (omega (arith, few)) ∙ sym (append-nil (spelled 4 n)))
    ∙ ap (λ (w : Written). put w number) c.in_ok-write_leaves.ensures.fields ∙ put_put c.args.writer.now leaves number in
    on_ok_weaker c.write_each_digest.result (λ is. is ∙ ap (λ (w : Written). put w (flat_map digest_fields out)) counted_is
    ∙ put_put c.args.writer.now (leaves ++ number) (flat_map digest_fields out)
    ∙ ap (put c.args.writer.now) (append_assoc leaves number (flat_map digest_fields out))
    ∙ ap (λ (ds : List (List ℕ)). put c.args.writer.now (leaves ++ counted 4 digest_fields ds)) all) c.write_each_digest.ensures.fields

use Rattle.std.proofs.Common.{sym, subst}
use Rattle.std.specs.Prelude.{IfOk}
use Rattle.ats_text_check.specs.Value.{TextProof, IsTextProof, IsTextInRange}
use Rattle.ats_text_proof.proofs.Given.{found_given, given-in_range}
use Rattle.ats_text_proof.proofs.giving.give_text.Goals as goal

pub spelled-requires : goal.spelled-requires
spelled-requires g c =
    let H = g.H.HashKind.hash in
    let archive = c.args.index.now in
    let same = found_given H archive c.args.doc c.collection-collection.result.now c.format.result c.header.result.now c.text.result.now c.as_bytes-text.result.now c.in_ok-digests.digests
    c.collection-collection.ensures.same c.requires c.format.ensures c.header.ensures.parts c.as_bytes-text.ensures.value c.text.ensures c.in_ok-digests.ensures in
    subst IsTextInRange (sym same) (given-in_range H g.H.HashKind.sized archive c.args.doc c.header.ensures.texts c.requires)

pub returns : goal.returns
returns g c =
    let H = g.H.HashKind.hash in
    let archive = c.args.index.now in
    let same = found_given H archive c.args.doc c.collection-collection.result.now c.format.result c.header.result.now c.text.result.now c.as_bytes-text.result.now c.in_ok-digests.digests
    c.collection-collection.ensures.same c.requires c.format.ensures c.header.ensures.parts c.as_bytes-text.ensures.value c.text.ensures c.in_ok-digests.ensures in
    subst (λ (proof : TextProof). IfOk c.spelled.result (λ bytes. IsTextProof bytes proof)) same c.spelled.ensures

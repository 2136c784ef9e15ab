use Rattle.std.proofs.Common.{◌≤◌, ◌∙◌, length, Option, refl, sym, ap, subst, arith}
use Rattle.std.specs.List.{All}
use Rattle.std.specs.Option.{option_map}
use Rattle.ats_tree.specs.Shown.{Shown}
use Rattle.ats_commit.specs.Ours.{ours}
use Rattle.ats_dict.specs.declared.header.Header.{Header}
use Rattle.ats_proof.specs.Ranges.{AreDocumentsInRange}
use Rattle.ats_proof.specs.Seen.{digests_of}
use Rattle.ats_proof.specs.SeenDocs.{documents_of, docs_leaves_of}
use Rattle.ats_proof.specs.Value.{Documents, Proof}
use Rattle.ats_client.specs.Documents.{IsTermsTree, documents_in}
use Rattle.ats_client.specs.Sections.{difference_of}
use Rattle.ats_client.proofs.Sections.{documents-short, documents_found, documents_later, documents_rebuild}
use Rattle.ats_client.proofs.clashing.documents.Goals as goal

pub in_tree-requires : goal.in_tree-requires
in_tree-requires g c κs =
    let proof : Proof = c.args.proof.now in
    let docs : Documents = documents_of c.in_ok-docs.docs in
    let range : AreDocumentsInRange docs = c.facts.ensures.range.shown docs c.in_ok-docs.ensures.documents in
    let shown = c.revealed-section.ensures.shown ∙ c.in_ok-docs.ensures.whole in
    let rebuilds = documents_rebuild g.H.HashKind.hash (ours g.H.HashKind.hash (g.O.OwnStrings.archive c.args.own.now) c.args.query.now) proof.header proof.met proof.docs docs
    c.header-leaves.result.documents (docs_leaves_of c.revealed-section.result) (digests_of c.revealed-section.result.digests) c.in_ok-docs.ensures.documents
    (ap (λ (h : Header). h.documents) c.header-leaves.ensures) shown c.revealed-section.ensures.digests c.requires.tree in
    let short = subst (All (λ (s : Shown). length s.1 ≤ 127)) (sym shown) (documents-short proof.met docs.leaves range.each) in
    ((refl, tt), (tt, ((λ two. absurd (cc two)), (rebuilds, (omega arith, ((λ two. absurd (cc two)), (short, omega (arith, c.requires.space))))))))

pub returns-in-Some : goal.returns-in-Some
returns-in-Some g c =
    let proof : Proof = c.args.proof.now in
    documents_found g.H.HashKind.hash (ours g.H.HashKind.hash (g.O.OwnStrings.archive c.args.own.now) c.args.query.now) proof.header proof.met proof.docs (documents_of c.in_ok-docs.docs)
    c.header-leaves.result.documents (docs_leaves_of c.revealed-section.result) (digests_of c.revealed-section.result.digests) c.in_ok-docs.ensures.documents
    (ap (λ (h : Header). h.documents) c.header-leaves.ensures) (c.revealed-section.ensures.shown ∙ c.in_ok-docs.ensures.whole) c.revealed-section.ensures.digests
    (difference_of c.in-Some.clash) c.in-Some.ensures.clash

pub each-requires-clause-range : goal.each-requires-clause-range
each-requires-clause-range g c = c.facts.ensures.range.shown (documents_of c.in_ok-docs.docs) c.in_ok-docs.ensures.documents

pub each-requires-clause-right : goal.each-requires-clause-right
each-requires-clause-right g c =
    let proof : Proof = c.args.proof.now in
    subst (λ (d : Option Documents). All (IsTermsTree g.H.HashKind.hash) (documents_in proof.met d)) c.in_ok-docs.ensures.documents c.requires.terms

pub returns : goal.returns
returns g c =
    let proof : Proof = c.args.proof.now in
    documents_later g.H.HashKind.hash (ours g.H.HashKind.hash (g.O.OwnStrings.archive c.args.own.now) c.args.query.now) proof.header proof.met proof.docs (documents_of c.in_ok-docs.docs)
    c.header-leaves.result.documents (docs_leaves_of c.revealed-section.result) (digests_of c.revealed-section.result.digests) c.in_ok-docs.ensures.documents
    (ap (λ (h : Header). h.documents) c.header-leaves.ensures) (c.revealed-section.ensures.shown ∙ c.in_ok-docs.ensures.whole) c.revealed-section.ensures.digests
    (option_map difference_of c.each.result) c.in_default.ensures.clash c.each.ensures

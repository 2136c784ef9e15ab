use Rattle.std.proofs.Common.{◌≡◌, ◌∙◌, Bool, true, None, sym, ap, subst}
use Rattle.ats_proof.specs.Value.{IsProof, AreDocumentsOf, Proof}
use Rattle.ats_proof.specs.Reading.{documents_in}
use Rattle.ats_proof.proofs.view.ProofView.docs.Goals as goal

pub shown_documents-requires : goal.shown_documents-requires
shown_documents-requires c none =
    let bytes = c.self.inside.bytes.now in
    let never : documents_in true bytes ≡ None =
    ap (λ (t : Bool). documents_in t bytes) (sym c.if-self.true ∙ c.self.invariant.same) ∙ ap (λ (p : Proof). p.docs) c.self.view_is ∙ none in
    cc

pub returns-then-self-clause-each : goal.returns-then-self-clause-each
returns-then-self-clause-each c =
    let bytes = c.self.inside.bytes.now in
    let own : IsProof bytes c.args.self.now = subst (IsProof bytes) c.self.view_is c.self.invariant.spelled in
    subst (AreDocumentsOf c.args.self.now) c.shown_documents.ensures.documents own.documents

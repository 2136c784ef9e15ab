use Rattle.std.proofs.Common.{◌≡◌, ◌∙◌, ℕ, true, List, length, sym, ap, subst}
use Rattle.ats_proof.specs.SeenDocs.{ids_of, documents_of}
use Rattle.ats_proof.specs.Value.{Proof, AreDocuments, present_in}
use Rattle.ats_all_check.specs.Documents.{are_present}
use Rattle.ats_all_check.proofs.Present.{all_counted}
use Rattle.ats_all_check.proofs.documents.both_documents.Goals as goal

pub with_all-requires-clause-parts : goal.with_all-requires-clause-parts
with_all-requires-clause-parts c =
    let proof : Proof = c.args.proof.now in
    let docs = c.in-Some.docs in
    let present : are_present proof.slots ≡ true = sym c.are_present.ensures.all ∙ c.if-not-are_present.false in
    let met : length proof.met ≡ length (ids_of docs) = ap (λ (l : List ℕ). length l) (sym c.in-Some.ensures.met) in
    let terms : present_in proof.slots ≡ c.terms.result = all_counted proof.slots present ∙ sym c.terms.ensures in
    subst (λ (n : ℕ). AreDocuments (length (ids_of docs)) n (documents_of docs)) terms
    (subst (λ (n : ℕ). AreDocuments n (present_in proof.slots) (documents_of docs)) met c.in-Some.ensures.each)

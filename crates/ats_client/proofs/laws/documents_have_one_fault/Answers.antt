use Rattle.ats_client.proofs.OneDocumentFault.{docs_exact, docs_tried, not_documents, one_documents, documents_tried}
use Rattle.ats_client.proofs.laws.documents_have_one_fault.Goals as goal

pub returns-clause-tree_one : goal.returns-clause-tree_one
returns-clause-tree_one g c proof = (docs_exact g.H.HashKind.hash proof.header proof.met proof.docs).one

pub returns-clause-tree_none : goal.returns-clause-tree_none
returns-clause-tree_none g c proof refusal rooted fault = (docs_exact g.H.HashKind.hash proof.header proof.met proof.docs).breaks refusal fault rooted

pub returns-clause-tree_some : goal.returns-clause-tree_some
returns-clause-tree_some g c proof = docs_tried g.H.HashKind.hash proof.header proof.met proof.docs

pub returns-clause-one : goal.returns-clause-one
returns-clause-one g c query proof = one_documents g.H.HashKind.hash query proof

pub returns-clause-none : goal.returns-clause-none
returns-clause-none g c query proof refusal right fault = not_documents g.H.HashKind.hash query proof refusal fault right

pub returns-clause-some : goal.returns-clause-some
returns-clause-some g c query proof = documents_tried g.H.HashKind.hash query proof

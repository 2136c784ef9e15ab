use Rattle.std.proofs.Common.{◌≡◌, ◌≤◌, ◌+◌, ◌*◌, Some, length}
use Rattle.std.specs.List.{sum_by}
use Rattle.ats_proof.specs.Value.{Documents, items_of_section, items_of_documents}
use Rattle.ats_proof.specs.SeenDocs.{ids_of, doc_leaves_of, sections_of}
use Rattle.ats_client.proofs.Tried.{IsTried}
use Rattle.ats_client.proofs.documents.documents.Given as goal

abbrev pub invariant-loop-index : goal.invariant-loop-index
invariant-loop-index g l = record {
  tried : (docs : Documents) → l.proof.docs ≡ Some docs
      → IsTried g.H.HashKind.hash l.query l.proof docs l.index (ids_of l.left) (doc_leaves_of l.left) (sections_of l.left) l.work.marks;
  room : l.work.room ≡ l.fn.work.room;
  cost : l.steps ≤ l.fn.steps + l.index * 34359738371;
  most : l.steps + 4 * length (ids_of l.left) + 4 * sum_by items_of_section (sections_of l.left) ≤ l.fn.steps + 4 * items_of_documents l.proof.docs;
}

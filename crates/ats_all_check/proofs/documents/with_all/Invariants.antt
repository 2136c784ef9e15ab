use Rattle.std.proofs.Common.{◌≡◌, ◌≤◌, ◌+◌, ◌*◌, ◌++◌, length}
use Rattle.std.specs.List.{All}
use Rattle.ats_proof.specs.SeenDocs.{ids_of, sections_of}
use Rattle.ats_proof.specs.Value.{TermsSection}
use Rattle.ats_all_check.specs.Documents.{with_all}
use Rattle.ats_all_check.specs.Inner.Met.{documents_left}
use Rattle.ats_all_check.proofs.documents.with_all.Given as goal

abbrev pub invariant-loop-doc : goal.invariant-loop-doc
invariant-loop-doc l = record {
  kept : l.documents ++ with_all (documents_left l.left) ≡ with_all (documents_left l.docs);
  slots : All (λ (section : TermsSection). length section.slots ≡ l.terms) (sections_of l.left);
  cost : l.steps + 33 * length (ids_of l.left) ≤ l.fn.steps + 33 * length (ids_of l.docs);
}

abbrev pub decreases-loop-doc : goal.decreases-loop-doc
decreases-loop-doc l = length (ids_of l.left)

use Rattle.std.proofs.Common.{◌≡◌, ◌+◌, ◌*◌, ◌≤◌, drop}
use Rattle.std.specs.List.{All, flat_map}
use Rattle.ats_tree.specs.Differences.{first_collision}
use Rattle.ats_commit.specs.Ours.{ours}
use Rattle.ats_proof.specs.Ranges.{IsSectionInRange}
use Rattle.ats_proof.specs.SeenDocs.{documents_of, ids_of, doc_leaves_of, sections_of}
use Rattle.ats_client.specs.Documents.{IsTermsTree, documents_from}
use Rattle.ats_client.specs.Strings.{terms_strings}
use Rattle.ats_client.proofs.clashing.each.Given as goal

abbrev pub invariant-loop-index : goal.invariant-loop-index
invariant-loop-index g l = record {
  looked : first_collision g.H.HashKind.hash (ours g.H.HashKind.hash (g.O.OwnStrings.archive l.own) l.query)
      (flat_map (terms_strings g.H.HashKind.hash) (documents_from l.proof.met (documents_of l.docs).leaves (documents_of l.docs).sections))
      ≡ first_collision g.H.HashKind.hash (ours g.H.HashKind.hash (g.O.OwnStrings.archive l.own) l.query)
      (flat_map (terms_strings g.H.HashKind.hash) (documents_from (ids_of l.left) (doc_leaves_of l.left) (sections_of l.left)));
  right : All (IsTermsTree g.H.HashKind.hash) (documents_from (ids_of l.left) (doc_leaves_of l.left) (sections_of l.left));
  range : All IsSectionInRange (sections_of l.left);
  ids_left : ids_of l.left ≡ drop l._index l.proof.met;
  cost : l.steps ≤ l.fn.steps + l._index * 34359738369;
}

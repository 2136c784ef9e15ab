use Rattle.std.proofs.Common.{◌≡◌, ◌<◌, ◌≤◌, ◌+◌, ◌*◌, ◌^◌, map, take}
use Rattle.std.specs.List.{All, flat_map}
use Rattle.ats_doctree.specs.declared.doc_leaf.DocLeaf.{DocLeaf}
use Rattle.ats_proof.specs.Value.{doc_fields}
use Rattle.ats_honest.specs.Documents.{document_leaf}
use Rattle.ats_prover.specs.Inner.Writing.{put}
use Rattle.ats_prover.proofs.documents.write_leaves.Given as goal

-- the leaves so far
abbrev pub invariant-loop-doc : goal.invariant-loop-doc
invariant-loop-doc g l = record {
  fields : l.writer ≡ put l.fn.writer (flat_map doc_fields (take l.doc-index (map (document_leaf g.H.HashKind.hash l.index.texts) l.met)));
  small : All (λ (leaf : DocLeaf). leaf.leaves < 2 ^ 32) (take l.doc-index (map (document_leaf g.H.HashKind.hash l.index.texts) l.met));
  size : l.writer.asked ≤ l.fn.writer.asked + 36 * l.doc-index;
}

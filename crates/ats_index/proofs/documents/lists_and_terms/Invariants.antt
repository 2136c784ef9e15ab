use Rattle.std.proofs.Common.{◌≡◌, take, map}
use Rattle.ats_tree.specs.Kept.{kept_digests}
use Rattle.ats_doctree.specs.Impacts.{text_terms}
use Rattle.ats_doctree.specs.Sentinels.{terms_leaves}
use Rattle.ats_index.proofs.documents.lists_and_terms.Given as goal

-- the documents so far are added, and have their terms and the digests of these
abbrev pub invariant-loop-doc : goal.invariant-loop-doc
invariant-loop-doc g l = record {
  added : l.run ≡ (l.collection, 0, l.doc);
  terms : l.all.items ≡ map (text_terms l.collection) (take l.doc l.collection);
  term_nodes : l.nodes.items ≡ map (λ text. kept_digests g.H.HashKind.hash (terms_leaves (text_terms l.collection text))) (take l.doc l.collection);
}

use Rattle.std.proofs.Common.{◌≡◌, ◌∙◌, ℕ, List, ◌∷◌, drop, sym, ap, subst, arith}
use Rattle.std.specs.List.{All, flat_map}
use Rattle.std.proofs.lemmas.List.{drop-drop}
use Rattle.std.proofs.lemmas.List.Elements.{All-head, All-tail}
use Rattle.ats_tree.specs.Differences.{first_collision}
use Rattle.ats_commit.specs.Ours.{ours}
use Rattle.ats_doctree.specs.declared.doc_leaf.DocLeaf.{DocLeaf}
use Rattle.ats_proof.specs.Ranges.{IsSectionInRange}
use Rattle.ats_proof.specs.SeenDocs.{ids_of, doc_leaves_of, sections_of, section_of, leaf_of, doc_of}
use Rattle.ats_proof.specs.Value.{TermsSection}
use Rattle.ats_client.specs.Documents.{MetDocument, documents_from, IsTermsTree}
use Rattle.ats_client.specs.Sections.{difference_of}
use Rattle.ats_client.specs.Inner.SeenTerms.{document_of}
use Rattle.ats_client.specs.Strings.{terms_strings}
use Rattle.ats_client.proofs.TermsLeft.{at_place}
use Rattle.ats_client.proofs.Sections.{found_here, not_here, later_all}
use Rattle.ats_client.proofs.Tried.{front_document}
use Rattle.ats_client.proofs.clashing.each.Goals as goal

pub terms-requires-clause-range : goal.terms-requires-clause-range
terms-requires-clause-range g c =
    at_place IsSectionInRange (sections_of c.loop-index.left) 0 (section_of c.in-Some.doc) c.loop-index.invariant.range (sym c.in-Some.ensures.section)

pub terms-requires-clause-right : goal.terms-requires-clause-right
terms-requires-clause-right g c =
    let ids : List ℕ = ids_of c.loop-index.left in
    let leaves : List DocLeaf = doc_leaves_of c.loop-index.left in
    let sections : List TermsSection = sections_of c.loop-index.left in
    All-head (IsTermsTree g.H.HashKind.hash) (document_of c.in-Some.doc) (documents_from (drop 1 ids) (drop 1 leaves) (drop 1 sections))
    (subst (All (IsTermsTree g.H.HashKind.hash))
    (front_document ids leaves sections (doc_of c.in-Some.doc) (leaf_of c.in-Some.doc) (section_of c.in-Some.doc) c.in-Some.ensures.doc c.in-Some.ensures.leaf c.in-Some.ensures.section)
    c.loop-index.invariant.right)

pub returns-in-Some-terms : goal.returns-in-Some-terms
returns-in-Some-terms g c =
    let H = g.H.HashKind.hash in
    let ids : List ℕ = ids_of c.loop-index.left in
    let leaves : List DocLeaf = doc_leaves_of c.loop-index.left in
    let sections : List TermsSection = sections_of c.loop-index.left in
    found_here H (ours H (g.O.OwnStrings.archive c.args.own.now) c.args.query.now) (terms_strings H) (documents_from ids leaves sections) (document_of c.in-Some.doc)
    (documents_from (drop 1 ids) (drop 1 leaves) (drop 1 sections)) (difference_of c.in-Some-terms.clash)
    (front_document ids leaves sections (doc_of c.in-Some.doc) (leaf_of c.in-Some.doc) (section_of c.in-Some.doc) c.in-Some.ensures.doc c.in-Some.ensures.leaf c.in-Some.ensures.section)
    c.in-Some-terms.ensures.clash
    ∙ sym c.loop-index.invariant.looked

pub loop-index-preserved : goal.loop-index-preserved
loop-index-preserved g c =
    let H = g.H.HashKind.hash in
    let ids : List ℕ = ids_of c.loop-index.left in
    let leaves : List DocLeaf = doc_leaves_of c.loop-index.left in
    let sections : List TermsSection = sections_of c.loop-index.left in
    let more : List MetDocument = documents_from (drop 1 ids) (drop 1 leaves) (drop 1 sections) in
    let front : documents_from ids leaves sections ≡ document_of c.in-Some.doc ∷ more =
    front_document ids leaves sections (doc_of c.in-Some.doc) (leaf_of c.in-Some.doc) (section_of c.in-Some.doc) c.in-Some.ensures.doc c.in-Some.ensures.leaf c.in-Some.ensures.section in
    let rest : more ≡ documents_from (ids_of c.next.new.self) (doc_leaves_of c.next.new.self) (sections_of c.next.new.self) =
    sym (ap (λ (i : List ℕ). documents_from i (doc_leaves_of c.next.new.self) (sections_of c.next.new.self)) c.in-Some.ensures.passed_ids
    ∙ ap (λ (l : List DocLeaf). documents_from (drop 1 ids) l (sections_of c.next.new.self)) c.in-Some.ensures.passed_leaves
    ∙ ap (documents_from (drop 1 ids) (drop 1 leaves)) c.in-Some.ensures.passed_sections) in
    record {
      looked = c.loop-index.invariant.looked
          ∙ not_here H (ours H (g.O.OwnStrings.archive c.args.own.now) c.args.query.now) (terms_strings H) (documents_from ids leaves sections) (document_of c.in-Some.doc) more front
          c.in_default-terms.ensures.clash
          ∙ ap (λ (ones : List MetDocument). first_collision H (ours H (g.O.OwnStrings.archive c.args.own.now) c.args.query.now) (flat_map (terms_strings H) ones)) rest;
      right = subst (All (IsTermsTree H)) rest (All-tail (IsTermsTree H) (document_of c.in-Some.doc) more (subst (All (IsTermsTree H)) front c.loop-index.invariant.right));
      range = subst (All IsSectionInRange) (sym c.in-Some.ensures.passed_sections) (later_all IsSectionInRange sections c.loop-index.invariant.range);
      ids_left = c.in-Some.ensures.passed_ids ∙ ap (drop 1) c.loop-index.invariant.ids_left ∙ drop-drop 1 c.loop-index._index c.args.proof.now.met;
      cost = omega (arith, c.terms.ensures.cost, c.next.ensures.cost, c.loop-index.invariant.cost);
    }

use Rattle.std.proofs.Common.{◌≤◌, length, refl, sym, ap, subst, arith}
use Rattle.std.specs.List.{All}
use Rattle.ats_tree.specs.Shown.{Shown}
use Rattle.ats_doctree.specs.declared.doc_leaf.DocLeaf.{DocLeaf}
use Rattle.ats_lists.specs.declared.format.Format.TheVariants.{One}
use Rattle.ats_proof.specs.SeenDocs.{section_of, leaf_of}
use Rattle.ats_client.proofs.Sections.{rebuilds_by, terms-short}
use Rattle.ats_client.proofs.clashing.terms.Goals as goal

pub in_tree-requires : goal.in_tree-requires
in_tree-requires g c κs =
    let rebuilds = rebuilds_by g.H.HashKind.hash One One c.leaf-leaves.result.leaves (leaf_of c.args.doc.now).leaves _ _ _ _ (leaf_of c.args.doc.now).root refl
    (ap (λ (l : DocLeaf). l.leaves) c.leaf-leaves.ensures) c.terms-section.ensures.shown c.terms-section.ensures.digests c.requires.right in
    let short = subst (All (λ (s : Shown). length s.1 ≤ 127)) (sym c.terms-section.ensures.shown) (terms-short (section_of c.args.doc.now).leaves c.requires.range.each) in
    ((refl, tt), (tt, ((λ two. absurd (cc two)), (rebuilds, (omega arith, ((λ two. absurd (cc two)), (short, omega (arith, c.requires.space))))))))

use Rattle.std.proofs.Common.{◌≤◌, length, refl, sym, ap, subst, arith}
use Rattle.std.specs.List.{All}
use Rattle.ats_tree.specs.Shown.{Shown}
use Rattle.ats_dict.specs.declared.header.Header.{Header}
use Rattle.ats_lists.specs.declared.format.Format.TheVariants.{One}
use Rattle.ats_client.proofs.Sections.{rebuilds_by, dictionary-short}
use Rattle.ats_client.proofs.clashing.dictionary.Goals as goal

pub in_tree-requires : goal.in_tree-requires
in_tree-requires g c κs =
    let proof = c.args.proof.now in
    let rebuilds = rebuilds_by g.H.HashKind.hash One One c.header-leaves.result.dict_leaves proof.header.dict_leaves _ _ _ _ proof.header.dict_root refl
    (ap (λ (h : Header). h.dict_leaves) c.header-leaves.ensures) c.dict-section.ensures.shown c.dict-section.ensures.digests c.requires.rooted in
    let short = subst (All (λ (s : Shown). length s.1 ≤ 127)) (sym c.dict-section.ensures.shown) (dictionary-short proof.dict c.facts.ensures.range.terms.each) in
    ((refl, tt), (tt, ((λ two. absurd (cc two)), (rebuilds, (omega arith, ((λ two. absurd (cc two)), (short, omega (arith, c.requires.space))))))))

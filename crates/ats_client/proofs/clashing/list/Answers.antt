use Rattle.std.proofs.Common.{◌≤◌, ◌∙◌, List, length, refl, sym, ap, subst, arith}
use Rattle.std.specs.List.{All, range_with_len}
use Rattle.ats_tree.specs.Shown.{Shown, positions_of}
use Rattle.ats_postings.specs.declared.entry.Entry.{Entry}
use Rattle.ats_client.specs.Inner.SeenLists.{prefix_of, presented_of}
use Rattle.ats_client.specs.Presented.{Presented}
use Rattle.ats_client.proofs.Counts.{list-from}
use Rattle.ats_client.proofs.ListNotes.{names_inside}
use Rattle.ats_client.proofs.Sections.{rebuilds_by, list-short}
use Rattle.ats_client.proofs.clashing.list.Goals as goal

pub revealed-section-requires : goal.revealed-section-requires
unfolding prefix_of
revealed-section-requires g c = names_inside (length c.args.proof.now.met) (prefix_of c.args.one.now.list).entries c.requires.right.names

pub in_tree-requires : goal.in_tree-requires
unfolding prefix_of
in_tree-requires g c κs =
    let proof = c.args.proof.now in
    let one : Presented = presented_of c.args.one.now in
    let entries : List Entry = one.prefix.entries in
    let rebuilds = rebuilds_by g.H.HashKind.hash _ proof.format one.entry.f one.entry.f _ _ _ _ one.entry.root c.format.ensures refl c.revealed-section.ensures.shown
    c.revealed-section.ensures.digests c.requires.right.root in
    let front = ap positions_of c.revealed-section.ensures.shown ∙ list-from 0 proof.met entries ∙ ap (range_with_len 0) (sym c.len.ensures) in
    let short = subst (All (λ (s : Shown). length s.1 ≤ 127)) (sym c.revealed-section.ensures.shown) (list-short 0 proof.met entries) in
    ((refl, tt), (c.requires.number, ((λ two. (one.number, refl)), (rebuilds, (omega (arith, c.len.ensures, c.requires.range.few), ((λ two. front), (short, omega (arith, c.requires.space))))))))

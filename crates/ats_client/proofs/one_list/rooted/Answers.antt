use Rattle.std.proofs.Common.{◌∙◌, List, length, refl, sym, ap, arith}
use Rattle.std.specs.List.{range_with_len}
use Rattle.ats_tree.specs.Shown.{Shown, positions_of}
use Rattle.ats_postings.specs.declared.entry.Entry.{Entry}
use Rattle.ats_client.specs.Inner.SeenLists.{prefix_of}
use Rattle.ats_client.proofs.Counts.{list-from, shown_list_size}
use Rattle.ats_client.proofs.one_list.rooted.Goals as goal

pub rebuilt_list-requires : goal.rebuilt_list-requires
unfolding prefix_of
rebuilt_list-requires g c κs =
    let met = c.args.proof.now.met in
    let entries : List Entry = (prefix_of c.args.one.now.list).entries in
    let front = ap positions_of c.revealed-section.ensures.shown ∙ list-from 0 met entries ∙ ap (range_with_len 0) (sym c.len.ensures) in
    let size = ap (λ (s : List Shown). length s) c.revealed-section.ensures.shown ∙ shown_list_size 0 met entries ∙ sym c.len.ensures in
    ((refl, tt), (omega (arith, c.len.ensures, c.requires.range.some), (omega (arith, c.len.ensures, c.requires.range.few), (front, (size, omega (arith, c.requires.space))))))

use Rattle.std.proofs.Common.{◌≡◌, List, [], sym, ap, ◌∙◌}
use Rattle.std.specs.Prelude.{slice_index_or}
use Rattle.ats_lists.specs.KeptList.{kept_list}
use Rattle.ats_postings.specs.Lists.{lists_of}
use Rattle.ats_postings.specs.declared.entry.Entry.{Entry}
use Rattle.ats_lists.specs.declared.format.Format.{Format}
use Rattle.ats_lists.specs.declared.format.Format.TheVariants.{Two}
use Rattle.ats_index.proofs.index.Index.list_chain.Goals as goal

pub unreachable-requires : goal.unreachable-requires
unreachable-requires g c =
    let entries : List Entry = (slice_index_or (lists_of c.args.self.now.texts) c.args.i ([], [])).1 in
    let kept : c.list_digests.result.now ≡ kept_list g.H.HashKind.hash Two entries =
    c.list_digests.ensures ([], []) ∙ ap (λ (format : Format). kept_list g.H.HashKind.hash format entries) c.requires.format in
    let clash = sym c.in-Tree.is ∙ kept in
    absurd (cc)

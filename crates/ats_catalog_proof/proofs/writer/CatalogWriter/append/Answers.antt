use Rattle.std.proofs.Common.{◌^◌, sym, length}
use Rattle.ats_catalog_proof.proofs.Appending.{after_beyond, after_within, none_kept}
use Rattle.ats_catalog_proof.proofs.writer.CatalogWriter.append.Goals as goal
use Rattle.ats_catalog_proof.proofs.writer.CatalogWriter.append.Goals.{then-asked-gt-MAX_BYTES+in-Some-1, then-asked-gt-MAX_BYTES+in-None-1, else-asked-gt-MAX_BYTES+in-Some+in_ok-extend, else-asked-gt-MAX_BYTES+in_default}

pub returns-clause-ok : goal.returns-clause-ok
returns-clause-ok c =
    let now = c.self.inside in
    elim c.if-asked-gt-MAX_BYTES.branch [
      | then-asked-gt-MAX_BYTES+in-Some-1 w ↦ rw (w.self-inside-is, ← c.self.view_is) (sym (after_beyond (2 ^ 28) now.asked now.kept c.args.bytes.now w.if-asked-gt-MAX_BYTES.true))
      | then-asked-gt-MAX_BYTES+in-None-1 w ↦ rw (w.self-inside-is, ← c.self.view_is) (sym (after_beyond (2 ^ 28) now.asked now.kept c.args.bytes.now w.if-asked-gt-MAX_BYTES.true))
      | else-asked-gt-MAX_BYTES+in-Some+in_ok-extend w ↦ rw (w.self-inside-is, ← c.self.view_is, w.in-Some.is, w.in_ok-extend.ensures)
          (sym (after_within (2 ^ 28) now.asked w.in-Some.kept c.args.bytes.now w.if-asked-gt-MAX_BYTES.false))
      | else-asked-gt-MAX_BYTES+in_default w ↦ absurd (none_kept now.asked (length c.args.bytes.now) now.kept c.self.invariant w.in_default.not-Some w.if-asked-gt-MAX_BYTES.false)
    ]

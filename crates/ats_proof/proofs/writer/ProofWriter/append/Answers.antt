use Rattle.std.proofs.Common.{sym, length}
use Rattle.ats_proof.proofs.Appending.{after_beyond, after_within, none_kept}
use Rattle.ats_proof.proofs.writer.ProofWriter.append.Goals as goal
use Rattle.ats_proof.proofs.writer.ProofWriter.append.Goals.{then-asked-self+in-Some-1, then-asked-self+in-None-1, else-asked-self+in-Some+in_ok-extend, else-asked-self+in_default}

pub returns-clause-ok : goal.returns-clause-ok
returns-clause-ok c =
    let now = c.self.inside in
    elim c.if-asked-self.branch [
      | then-asked-self+in-Some-1 w ↦ rw (w.self-inside-is, ← c.self.view_is) (sym (after_beyond now.limit now.asked now.kept c.args.bytes.now w.if-asked-self.true))
      | then-asked-self+in-None-1 w ↦ rw (w.self-inside-is, ← c.self.view_is) (sym (after_beyond now.limit now.asked now.kept c.args.bytes.now w.if-asked-self.true))
      | else-asked-self+in-Some+in_ok-extend w ↦ rw (w.self-inside-is, ← c.self.view_is, w.in-Some.is, w.in_ok-extend.ensures)
          (sym (after_within now.limit now.asked w.in-Some.kept c.args.bytes.now w.if-asked-self.false))
      | else-asked-self+in_default w ↦ absurd (none_kept now.limit now.asked (length c.args.bytes.now) now.kept c.self.invariant w.in_default.not-Some w.if-asked-self.false)
    ]

use Rattle.std.proofs.Common.{◌<◌, refl, sym, subst, arith}
use Rattle.std.specs.List.Sorted.{IsStrictlyIncreasing}
use Rattle.ats_proof.specs.Reading.{id_size, id_in, doc_size, doc_in}
use Rattle.ats_proof.proofs.Taking.{parts_more}
use Rattle.ats_proof.proofs.Documents.{docs_positions}
use Rattle.ats_proof.proofs.docs_cursor.DocsCursorRevealed.position.Goals as goal

pub returns-clause-first : goal.returns-clause-first
returns-clause-first c =
    let s = c.args.self.now in
    let some : 0 < s.left = omega (arith, c.if-self-eq0.false) in
    rw (c.number_4.ensures, parts_more id_size id_in s.left s.ids.now some, parts_more doc_size doc_in s.left s.leaves.now some) refl

pub returns-clause-rising : goal.returns-clause-rising
returns-clause-rising c =
    let s = c.args.self.now in subst IsStrictlyIncreasing (sym (docs_positions s.left s.ids.now s.leaves.now)) s.rises

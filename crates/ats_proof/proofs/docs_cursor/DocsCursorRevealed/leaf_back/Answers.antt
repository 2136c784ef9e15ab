use Rattle.std.proofs.Common.{arith}
use Rattle.ats_proof.proofs.Documents.{docs_left, docs_first}
use Rattle.ats_proof.proofs.docs_cursor.DocsCursorRevealed.leaf_back.Goals as goal

pub returns : goal.returns
returns c =
    let s = c.args.self.now in
    let some = docs_left s.left s.ids.now s.leaves.now c.requires in
    rw (c.split_at-2.ensures.front, c.split_at.ensures.back) (docs_first s.left s.ids.now s.leaves.now some (omega (arith, some, s.leaves_space)) c.are_bytes.ensures)

use Rattle.ats_proof.specs.SeenCursor.{met_of}
use Rattle.ats_proof.proofs.Encoding.{some_left, first_named}
use Rattle.ats_proof.proofs.cursor.ListCursorRevealed.leaf_front.Goals as goal

pub nth-requires-clause-within : goal.nth-requires-clause-within
nth-requires-clause-within c =
    let s = c.args.self.now in
    rw c.number_4.ensures (first_named s.met s.left s.entries.now (some_left s.at s.left (met_of s) s.entries.now c.requires) s.named)

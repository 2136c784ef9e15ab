use Rattle.std.proofs.Common.{◌<◌, refl, arith}
use Rattle.std.proofs.lemmas.List.{length-drop}
use Rattle.ats_proof.specs.Reading.{posting_size, posting_in}
use Rattle.ats_proof.specs.SeenCursor.{met_of}
use Rattle.ats_proof.proofs.Taking.{parts_more}
use Rattle.ats_proof.proofs.Encoding.{some_left, rest_named}
use Rattle.ats_proof.proofs.cursor.ListCursorRevealed.pass_leaf.Goals as goal

pub invariant_of-self : goal.invariant_of-self
invariant_of-self c =
    let s = c.args.self.now in
    let some : 0 < s.left = some_left s.at s.left (met_of s) s.entries.now c.requires.left in
    record {
      few = omega (arith, some, s.few);
      space = rw c.split_at.ensures.back (omega (arith, some, s.space, length-drop 6 s.entries.now));
      ids_space = s.ids_space;
      named = rw c.split_at.ensures.back (rest_named s.met s.left s.entries.now some s.named);
    }

pub returns-clause-passed : goal.returns-clause-passed
returns-clause-passed c =
    let s = c.args.self.now in
    let some : 0 < s.left = some_left s.at s.left (met_of s) s.entries.now c.requires.left in
    rw (c.split_at.ensures.back, parts_more posting_size posting_in s.left s.entries.now some) refl

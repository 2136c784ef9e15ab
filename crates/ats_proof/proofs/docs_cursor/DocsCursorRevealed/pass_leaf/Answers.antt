use Rattle.std.proofs.Common.{refl, arith}
use Rattle.std.proofs.lemmas.List.{length-drop}
use Rattle.ats_proof.specs.Reading.{id_size, id_in, doc_size, doc_in}
use Rattle.ats_proof.proofs.Taking.{parts_more}
use Rattle.ats_proof.proofs.Documents.{docs_left, rest_ids_rise}
use Rattle.ats_proof.proofs.docs_cursor.DocsCursorRevealed.pass_leaf.Goals as goal

pub invariant_of-self : goal.invariant_of-self
invariant_of-self c =
    let s = c.args.self.now in
    let some = docs_left s.left s.ids.now s.leaves.now c.requires.left in
    record {
      ids_space = rw c.split_at.ensures.back (omega (arith, some, s.ids_space, length-drop 4 s.ids.now));
      leaves_space = rw c.split_at-2.ensures.back (omega (arith, some, s.leaves_space, length-drop 36 s.leaves.now));
      rises = rw c.split_at.ensures.back (rest_ids_rise s.left s.ids.now some s.rises);
    }

pub returns-clause-passed : goal.returns-clause-passed
returns-clause-passed c =
    let s = c.args.self.now in
    let some = docs_left s.left s.ids.now s.leaves.now c.requires.left in
    rw (c.split_at.ensures.back, c.split_at-2.ensures.back, parts_more id_size id_in s.left s.ids.now some, parts_more doc_size doc_in s.left s.leaves.now some) refl

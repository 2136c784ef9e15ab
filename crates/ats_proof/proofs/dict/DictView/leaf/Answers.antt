use Rattle.std.proofs.Common.{◌≡◌, ◌<◌, ◌+◌, take, drop, Some, ap, arith}
use Rattle.std.proofs.lemmas.List.{length-drop}
use Rattle.ats_proof.specs.Reading.{entry_size, entry_in, term_length_in}
use Rattle.ats_proof.proofs.Taking.{parts_more}
use Rattle.ats_proof.proofs.Cutting.{entry_of_parts}
use Rattle.ats_proof.proofs.dict.DictView.leaf.Goals as goal

pub split_at-requires-2 : goal.split_at-requires-2
split_at-requires-2 c = omega (arith, c.first-leaf.ensures.size, c.args.self.now.after_term)

pub digest-requires : goal.digest-requires
digest-requires c = rw c.split_at-2.ensures.back (omega (arith, c.first-leaf.ensures.size, c.args.self.now.after_term, length-drop 4 c.first-leaf.result.back.now))

pub returns-clause-leaf : goal.returns-clause-leaf
returns-clause-leaf c =
    let run = c.args.self.now.leaves in
    let some : 0 < run.left = omega (arith, c.if-self-eq0.false) in
    let back : c.first-leaf.result.back.now ≡ take 36 (drop (5 + term_length_in run.bytes.now) run.bytes.now) = rw c.args.self.now.after_term at c.first-leaf.ensures.back in
    let same = entry_of_parts run.bytes.now c.first-leaf.result.front.now c.first-leaf.result.back.now c.first-leaf.ensures.front back in
    rw (c.split_at.ensures.back, c.number_4.ensures, c.digest.ensures, c.split_at-2.ensures.back, parts_more entry_size entry_in run.left run.bytes.now some) (ap Some same)

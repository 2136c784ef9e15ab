use Rattle.std.proofs.Common.{◌≡◌, ◌<◌, ◌+◌, take, drop, Some, ap, arith}
use Rattle.ats_proof.specs.Reading.{term_size, term_in, term_length_in}
use Rattle.ats_proof.proofs.Taking.{parts_more}
use Rattle.ats_proof.proofs.Cutting.{term_of_parts}
use Rattle.ats_proof.proofs.terms.TermsView.leaf.Goals as goal

pub number_2-requires : goal.number_2-requires
number_2-requires c = omega (arith, c.first-leaf.ensures.size, c.args.self.now.after_term)

pub returns-clause-leaf : goal.returns-clause-leaf
returns-clause-leaf c =
    let run = c.args.self.now.leaves in
    let some : 0 < run.left = omega (arith, c.if-self-eq0.false) in
    let back : c.first-leaf.result.back.now ≡ take 2 (drop (5 + term_length_in run.bytes.now) run.bytes.now) = rw c.args.self.now.after_term at c.first-leaf.ensures.back in
    let same = term_of_parts run.bytes.now c.first-leaf.result.front.now c.first-leaf.result.back.now c.first-leaf.ensures.front back in
    rw (c.split_at.ensures.back, c.number_2.ensures, parts_more term_size term_in run.left run.bytes.now some) (ap Some same)

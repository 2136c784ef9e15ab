use Rattle.std.proofs.Common.{◌≡◌}
use Rattle.ats_proof.specs.Reading.{term_length_in}
use Rattle.ats_proof.proofs.Cutting.{rest_of_leaf}
use Rattle.ats_proof.proofs.leaves.cut_leaf.Goals as goal

pub returns-clause-rest : goal.returns-clause-rest
returns-clause-rest c =
    let length_is : c.number_1.result ≡ term_length_in c.args.bytes.now = rw (← c.split_at.ensures.back) c.number_1.ensures in
    rw (c.split_at-3.ensures.back, c.split_at-2.ensures.back, c.split_at.ensures.back, c.from-length.ensures, length_is) (rest_of_leaf c.args.after_term c.args.bytes.now)

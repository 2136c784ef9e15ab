use Rattle.std.proofs.Common.{arith}
use Rattle.ats_proof.proofs.Numbers.{AreBytes}
use Rattle.ats_proof.proofs.Whole.{whole}
use Rattle.ats_proof.proofs.reading.are_a_proof.Goals as goal

pub returns : goal.returns
returns c =
    let bytes = c.args.bytes.now in
    let small : AreBytes bytes = λ i. let h = c.type_inv.bytes i in omega (arith, h) in
    let whole_proof = whole bytes small c.requires in
    record { proof = whole_proof.is; space = whole_proof.space }

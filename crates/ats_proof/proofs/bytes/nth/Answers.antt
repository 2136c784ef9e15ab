use Rattle.std.proofs.Common.{◌≡◌, ℕ, ◌<◌, ◌+◌, ◌*◌, ◌≤◌, arith}
use Rattle.std.proofs.Math.Nat.{mul-le-mul_right}
use Rattle.std.proofs.lemmas.List.{length-drop}
use Rattle.ats_proof.proofs.bytes.nth.Goals as goal

space_of : (i n k : ℕ) → i < n → k * i + k ≤ n * k
space_of i n k within =
    let h : (i + 1) * k ≤ n * k = mul-le-mul_right k (omega (arith, within)) in
    let e : k * i + k ≡ (i + 1) * k = grind arith in
    omega (arith, h, e)

pub split_at-requires : goal.split_at-requires
split_at-requires c = let h = space_of c.args.i c.args.count c.args.size c.requires.within in omega (arith, h, c.requires.space)

pub returns-clause-space : goal.returns-clause-space
returns-clause-space c =
    let h = space_of c.args.i c.args.count c.args.size c.requires.within in
    rw c.split_at.ensures.back (omega (arith, h, c.requires.space, length-drop (c.args.size * c.args.i) c.args.bytes.now))

use Rattle.std.proofs.Common.{◌≡◌, ◌+◌, ℕ, length, ap, sym, ◌∙◌, arith}
use Rattle.ats_tree.specs.Inner.Padded.{padded-len}
use Rattle.ats_tree.proofs.PaddedLemmas.{padded-more}
use Rattle.ats_tree.proofs.hashed_string.HashedString.push.Goals as goal

pub invariant_of-self : goal.invariant_of-self
invariant_of-self c =
    let len : ℕ = c.self.inside.len
    in let held : length c.args.self.now ≡ len =
    ap length (sym c.self.view_is) ∙ padded-len len c.self.inside.bytes c.self.invariant
    in let more : length c.copy_from_slice.new.self ≡ length c.args.bytes.now = ap length c.copy_from_slice.ensures.after
    in padded-more len _ (len + length c.args.bytes.now) c.self.inside.bytes c.copy_from_slice.new.self c.self.invariant
    (omega arith) (omega arith) (omega (arith, c.requires))

use Rattle.std.proofs.Common.{◌≡◌, ◌∙◌, ℕ, ◌<◌, ◌+◌, ◌^◌, ◌*◌, ◌%◌, ◌≤◌, sym, ap, arith}
use Rattle.std.proofs.Math.Nat.{mod-eq_of_lt}
use Rattle.std.proofs.Math.Pow.{pow_mono}
use Rattle.std.proofs.lemmas.Iterator.Adapters.{option_map_id}
use Rattle.ats_lists.proofs.ChainClashes.{own-node, no-node}
use Rattle.ats_lists.proofs.chain_clashing.OwnBlockOwnNodesHashedString.at.Goals as goal

pub returns-then-depth-gt6-clause-string : goal.returns-then-depth-gt6-clause-string
returns-then-depth-gt6-clause-string g c =
    no-node (g.O.OwnList.ours c.args.self.now.own.now) c.args.self.now.block c.args.depth c.args.turns c.if-depth-gt6.true

pub returns-clause-string : goal.returns-clause-string
returns-clause-string g c =
    let most : 2 ^ c.args.depth ≤ 2 ^ 6 = pow_mono c.if-depth-gt6.false
    in let width : (1 * 2 ^ c.args.depth) % 4294967296 ≡ 2 ^ c.args.depth = shifted (2 ^ c.args.depth) (omega (arith, most))
    in option_map_id _ ∙ c.at.ensures.string
    ∙ ap (λ (m : ℕ). g.O.OwnList.ours c.args.self.now.own.now (record { depth = 1 + c.args.depth; turns = 64 * c.args.self.now.block + c.args.turns % m })) width
    ∙ sym (own-node (g.O.OwnList.ours c.args.self.now.own.now) c.args.self.now.block c.args.depth c.args.turns c.if-depth-gt6.false)
  where
    shifted : (m : ℕ) → m < 4294967296 → (1 * m) % 4294967296 ≡ m
    shifted m small = let one : 1 * m ≡ m = omega arith in ap (λ n. n % 4294967296) one ∙ mod-eq_of_lt small

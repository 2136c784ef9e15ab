use Rattle.std.proofs.Common.{◌≡◌, ℕ, List, length, map, sym, ap, arith}
use Rattle.ats_lists.specs.KeptChain.{ChainDigests}
use Rattle.ats_lists.specs.Leaf.{leaf_bytes}
use Rattle.ats_lists.proofs.KeptChains.{string-past}
use Rattle.ats_lists.proofs.chain_keeping.Chain.string_at.Goals as goal

pub returns-then-j-len : goal.returns-then-j-len
returns-then-j-len g c =
    let leaves : List (List ℕ) = map leaf_bytes c.args.entries.now
    in let count : c.args.self.now.entries ≡ length (map leaf_bytes c.args.entries.now) = ap (λ (s : ChainDigests). s.entries) c.requires.kept
    in sym (string-past g.H.HashKind.hash leaves c.args.depth c.args.turns (omega (arith, c.if-j-len.true, c.len.ensures)))

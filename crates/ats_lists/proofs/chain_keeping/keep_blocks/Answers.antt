use Rattle.std.proofs.Common.{◌≡◌, ℕ, ◌+◌, ◌-◌, ◌*◌, ◌<◌, List, ◌∷◌, length, ◌∙◌, ap, ap₂, arith}
use Rattle.ats_tree.specs.Kept.{kept_digests}
use Rattle.ats_lists.specs.Blocks.{blocks_in, items_in}
use Rattle.ats_lists.specs.Chain.{chain_from}
use Rattle.ats_lists.proofs.KeptChains.{block_digests, block-leaves, own-digest, written}
use Rattle.ats_lists.proofs.chain_keeping.keep_blocks.Goals as goal

pub loop-j-preserved : goal.loop-j-preserved
loop-j-preserved g c =
    let H : List ℕ → List ℕ = g.H.HashKind.hash
    in let leaves : List (List ℕ) = g.L.Leaves.items c.args.leaves.now
    in let j : ℕ = c.loop-j.j - 1
    in let after : c.loop-j.j ≡ c.loop-j.j - 1 + 1 = omega arith
    in let less : c.loop-j.j - 1 < blocks_in (length (g.L.Leaves.items c.args.leaves.now)) = omega arith
    in let count : c.min-size.result ≡ items_in (length (g.L.Leaves.items c.args.leaves.now)) (c.loop-j.j - 1) = omega (arith, c.min-size.ensures, c.len-n.ensures)
    in let digest : c.keep_block-next.result ≡ chain_from H leaves j =
    own-digest H leaves j c.min-size.result c.loop-j.next c.keep_block-next.result less count
    (c.loop-j.invariant.linked ∙ ap (chain_from H leaves) after) c.keep_block-next.ensures.own
    in let own : c.keep_block-next.new.digests ≡ block_digests H leaves j =
    c.keep_block-next.ensures.kept ∙ ap₂ (λ (d : List ℕ) (ds : List (List ℕ)). d ∷ ds) digest (ap (kept_digests H) (block-leaves leaves j c.min-size.result count))
    in record {
      inside = omega arith;
      linked = digest;
      kept = written H leaves c.loop-j.digests c.keep_block-next.new.digests j (2 * (64 * (c.loop-j.j - 1)))
          (2 * (64 * (c.loop-j.j - 1) + c.min-size.result) - 2 * (64 * (c.loop-j.j - 1))) less
          (omega (arith, c.loop-j.auto.digests, c.requires.size)) (omega arith) (omega arith) own
          (λ i from inside. c.loop-j.invariant.kept i (omega arith) inside);
      cost = omega (arith, c.keep_block-next.ensures.cost, c.loop-j.invariant.cost);
    }

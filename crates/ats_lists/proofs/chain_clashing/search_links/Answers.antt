use Rattle.std.proofs.Common.{◌≡◌, ◌+◌, ◌-◌, ◌<◌, length, min, arith}
use Rattle.ats_lists.proofs.ChainClashes.{link-digest, link-more}
use Rattle.ats_lists.proofs.chain_clashing.search_links.Goals as goal

pub loop-j-preserved-then-j-first : goal.loop-j-preserved-then-j-first
loop-j-preserved-then-j-first g c =
    let up : c.loop-j.j - 1 + 1 ≡ c.loop-j.j = omega arith
    in let less : c.loop-j.j - 1 < min (length c.args.roots.now) (c.args.first.block + 1) = omega (arith, c.if-j-first.true)
    in let inside : c.loop-j.j - 1 < length c.args.roots.now = omega arith
    in record {
      inside = omega arith;
      linked = link-digest g.H.HashKind.hash c.args.roots.now c.args.next (c.loop-j.j - 1) c.loop-j.j c.loop-j.digest c.digest2-digest.result up inside
          c.digest2-digest.ensures.value c.loop-j.invariant.linked;
      found = link-more g.H.HashKind.hash (g.O.OwnList.ours c.args.own.now) c.args.roots.now c.args.next (c.loop-j.j - 1) c.loop-j.j
          (min (length c.args.roots.now) (c.args.first.block + 1)) c.tagged-theirs.result c.loop-j.digest _ _ _ up less c.tagged-theirs.ensures c.loop-j.invariant.linked
          c.loop-j.invariant.found c.link_clash_or-clash.ensures.clash;
      count = omega (arith, c.loop-j.invariant.count, c.digest2-digest.ensures.cost, c.link_clash_or-clash.ensures.cost);
    }

use Rattle.std.proofs.Common.{◌≡◌, ◌<◌, length, refl, ◌∙◌, ap, arith}
use Rattle.std.proofs.lemmas.List.{length-take-le}
use Rattle.ats_lists.specs.Blocks.{blocks_in}
use Rattle.ats_lists.proofs.Fronts.{front-length}
use Rattle.ats_lists.proofs.BlockLemmas.{blocks-div_ceil, shown-front}
use Rattle.ats_lists.proofs.ChainOutcomes.{none-long}
use Rattle.ats_lists.proofs.chain_rebuilding.chain_rebuild.Goals as goal

-- fewer leaves than are shown
pub returns-then-f-k-clause-value : goal.returns-then-f-k-clause-value
returns-then-f-k-clause-value g c =
    let size : length (g.R.Revealed.shown c.args.revealed.now) ≡ c.args.k = front-length 0 c.args.k (g.R.Revealed.shown c.args.revealed.now) c.requires.front
    in let long : c.args.f < length (g.R.Revealed.shown c.args.revealed.now) = omega arith
    in none-long g.H.HashKind.hash c.args.f (g.R.Revealed.shown c.args.revealed.now) (g.R.Revealed.digests c.args.revealed.now) long

pub returns-then-f-k-clause-cost : goal.returns-then-f-k-clause-cost
returns-then-f-k-clause-cost g c =
    let size : length (g.R.Revealed.shown c.args.revealed.now) ≡ c.args.k = front-length 0 c.args.k (g.R.Revealed.shown c.args.revealed.now) c.requires.front
    in omega arith

-- one root
pub rebuild_front-requires : goal.rebuild_front-requires
rebuild_front-requires g c κs =
    let size : length (g.R.Revealed.shown c.args.revealed.now) ≡ c.args.k = front-length 0 c.args.k (g.R.Revealed.shown c.args.revealed.now) c.requires.front
    in ((refl, tt), (omega arith, (omega arith, (shown-front c.args.k (g.R.Revealed.shown c.args.revealed.now) c.requires.front, (omega arith, (omega arith, omega arith))))))

pub returns-then-k-le-BLOCK-clause-cost : goal.returns-then-k-le-BLOCK-clause-cost
returns-then-k-le-BLOCK-clause-cost g c =
    let size : length (g.R.Revealed.shown c.args.revealed.now) ≡ c.args.k = front-length 0 c.args.k (g.R.Revealed.shown c.args.revealed.now) c.requires.front
    in omega (arith, c.rebuild_front.ensures.cost, ap blocks_in size)

pub returns-then-k-le-BLOCK-clause-by_items : goal.returns-then-k-le-BLOCK-clause-by_items
returns-then-k-le-BLOCK-clause-by_items g c =
    let size : length (g.R.Revealed.shown c.args.revealed.now) ≡ c.args.k = front-length 0 c.args.k (g.R.Revealed.shown c.args.revealed.now) c.requires.front
    in omega (arith, c.rebuild_front.ensures.by_items)

-- a root for each block
pub rebuild_front-requires-2 : goal.rebuild_front-requires-2
rebuild_front-requires-2 g c κs =
    let size : length (g.R.Revealed.shown c.args.revealed.now) ≡ c.args.k = front-length 0 c.args.k (g.R.Revealed.shown c.args.revealed.now) c.requires.front
    in let blocks : c.div_ceil-blocks.result ≡ blocks_in (length (g.R.Revealed.shown c.args.revealed.now)) =
    blocks-div_ceil c.args.k (g.R.Revealed.shown c.args.revealed.now) c.requires.front c.div_ceil-blocks.ensures
    in ((refl, tt), (omega arith, (omega arith, (shown-front c.args.k (g.R.Revealed.shown c.args.revealed.now) c.requires.front, (omega arith, (length-take-le _ _ (omega arith) ∙ blocks, omega arith))))))

pub returns-clause-cost : goal.returns-clause-cost
returns-clause-cost g c =
    let size : length (g.R.Revealed.shown c.args.revealed.now) ≡ c.args.k = front-length 0 c.args.k (g.R.Revealed.shown c.args.revealed.now) c.requires.front
    in omega (arith, c.rebuild_front-2.ensures.cost, ap blocks_in size)

pub returns-clause-by_items : goal.returns-clause-by_items
returns-clause-by_items g c =
    let size : length (g.R.Revealed.shown c.args.revealed.now) ≡ c.args.k = front-length 0 c.args.k (g.R.Revealed.shown c.args.revealed.now) c.requires.front
    in omega (arith, c.rebuild_front-2.ensures.by_items)

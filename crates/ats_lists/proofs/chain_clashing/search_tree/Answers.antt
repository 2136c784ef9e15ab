use Rattle.std.proofs.Common.{◌∙◌, ◌≤◌, ◌*◌, ◌^◌, sym, ap, arith}
use Rattle.std.specs.Option.{option_map}
use Rattle.std.proofs.Math.Pow.{pow_mono}
use Rattle.ats_tree.specs.Clashes.{difference_of}
use Rattle.ats_tree.proofs.Public.{part-shallow}
use Rattle.ats_lists.proofs.ChainClashes.{no-clash, part-clash}
use Rattle.ats_lists.proofs.chain_clashing.search_tree.Goals as goal

pub returns-in_default-clause-clash : goal.returns-in_default-clause-clash
returns-in_default-clause-clash g c =
    no-clash g.H.HashKind.hash (g.O.OwnList.ours c.args.own.now) c.args.block _
    (part-shallow g.H.HashKind.hash 6 (64 * c.args.block) c.args.n (g.R.Revealed.shown c.args.revealed.now) (g.R.Revealed.digests c.args.revealed.now) c.requires.few)
    (ap (option_map (difference_of (λ s. s))) (sym c.in_default.is) ∙ c.first_clash_in_part-clash.ensures.clash)

pub overflow_add-clash : goal.overflow_add-clash
overflow_add-clash g c =
    let is = part-clash g.H.HashKind.hash (g.O.OwnList.ours c.args.own.now) c.args.block c.args.n (g.R.Revealed.shown c.args.revealed.now) (g.R.Revealed.digests c.args.revealed.now)
    _ c.in-Some.clash c.requires.few c.in-Some.is c.first_clash_in_part-clash.ensures.place c.first_clash_in_part-clash.ensures.clash
    in omega (arith, is.few)

pub overflow_add-clash-2 : goal.overflow_add-clash-2
overflow_add-clash-2 g c =
    let is = part-clash g.H.HashKind.hash (g.O.OwnList.ours c.args.own.now) c.args.block c.args.n (g.R.Revealed.shown c.args.revealed.now) (g.R.Revealed.digests c.args.revealed.now)
    _ c.in-Some.clash c.requires.few c.in-Some.is c.first_clash_in_part-clash.ensures.place c.first_clash_in_part-clash.ensures.clash
    in let most : 2 ^ c.in-Some.clash.depth ≤ 2 ^ 6 = pow_mono is.few
    in omega (arith, is.inside, most)

pub returns-clause-clash : goal.returns-clause-clash
returns-clause-clash g c =
    let is = part-clash g.H.HashKind.hash (g.O.OwnList.ours c.args.own.now) c.args.block c.args.n (g.R.Revealed.shown c.args.revealed.now) (g.R.Revealed.digests c.args.revealed.now)
    _ c.in-Some.clash c.requires.few c.in-Some.is c.first_clash_in_part-clash.ensures.place c.first_clash_in_part-clash.ensures.clash
    in is.value

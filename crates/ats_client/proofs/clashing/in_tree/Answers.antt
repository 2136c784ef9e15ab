use Rattle.std.proofs.Common.{◌∙◌, subst}
use Rattle.std.specs.List.{All}
use Rattle.ats_tree.specs.Differences.{IsOurs}
use Rattle.ats_commit.specs.Ours.{ours}
use Rattle.ats_commit.proofs.Public.{shown_are_ours}
use Rattle.ats_commit.specs.Places.{in_tree}
use Rattle.ats_client.proofs.Sections.{clash_in_tree, clash_in_blocks, none_in_own, strings_by_format}
use Rattle.ats_client.proofs.clashing.in_tree.Goals as goal

pub returns-in-One-clause-clash : goal.returns-in-One-clause-clash
returns-in-One-clause-clash g c =
    rw c.in-One.is (
    c.placed.ensures
    ∙ clash_in_tree g.H.HashKind.hash (ours g.H.HashKind.hash (g.O.OwnStrings.archive c.args.own.now) c.args.query.now) c.args.tree _ c.first_clash.result
    c.first_clash.ensures.place c.first_clash.ensures.clash
    )

pub returns-in-Two-clause-clash : goal.returns-in-Two-clause-clash
returns-in-Two-clause-clash g c =
    rw c.in-Two.is (
    c.placed-in-Two.ensures
    ∙ clash_in_blocks g.H.HashKind.hash (ours g.H.HashKind.hash (g.O.OwnStrings.archive c.args.own.now) c.args.query.now) c.args.tree _ c.chain_first_clash.result
    c.chain_first_clash.ensures.clash
    )

pub returns-then-has_shown-clause-clash : goal.returns-then-has_shown-clause-clash
returns-then-has_shown-clause-clash g c =
    let H = g.H.HashKind.hash in
    let archive = g.O.OwnStrings.archive c.args.own.now in
    let query = c.args.query.now in
    let shown = g.R.Revealed.shown c.args.revealed.now in
    let digests = g.R.Revealed.digests c.args.revealed.now in
    none_in_own H archive query c.args.tree _
    (subst (All (IsOurs (λ at. ours H archive query (in_tree c.args.tree at))))
    (strings_by_format H c.args.format c.args.tree c.args.leaves shown digests c.requires.hashed)
    (shown_are_ours H archive query c.args.format c.args.tree c.args.leaves shown digests (c.has_shown.ensures.0 c.if-has_shown.true)))

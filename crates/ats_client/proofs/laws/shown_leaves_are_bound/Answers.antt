use Rattle.std.proofs.Common.{sym}
use Rattle.ats_commit.specs.Root.{root_of}
use Rattle.ats_proof.proofs.Public.{in_range}
use Rattle.ats_client.proofs.Descent.{whole-binds, collision-is-difference}
use Rattle.ats_client.proofs.Kept.{rooted}
use Rattle.ats_client.proofs.laws.shown_leaves_are_bound.Goals as goal

pub returns-clause-bound : goal.returns-clause-bound
returns-clause-bound g c archive query r bytes proof are asked is accepts =
    whole-binds g.H.HashKind.hash g.H.HashKind.sized archive query proof are asked (in_range bytes proof is) (sym is.prefix_each)
    (rooted g.H.HashKind.hash (root_of g.H.HashKind.hash archive) query r proof accepts)

pub returns-clause-collision : goal.returns-clause-collision
returns-clause-collision g c archive query r bytes proof are asked is accepts =
    collision-is-difference g.H.HashKind.hash archive query proof (returns-clause-bound g c archive query r bytes proof are asked is accepts)

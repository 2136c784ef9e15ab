use Rattle.std.proofs.Common.{sym}
use Rattle.ats_proof.proofs.Public.{in_range}
use Rattle.ats_client.proofs.Descent.{whole-binds, collision-is-difference}
use Rattle.ats_client.proofs.laws.rebuilt_sections_are_bound.Goals as goal

pub returns-clause-bound : goal.returns-clause-bound
returns-clause-bound g c archive query bytes proof are asked is rooted =
    whole-binds g.H.HashKind.hash g.H.HashKind.sized archive query proof are asked (in_range bytes proof is) (sym is.prefix_each) rooted

pub returns-clause-collision : goal.returns-clause-collision
returns-clause-collision g c archive query bytes proof are asked is rooted =
    collision-is-difference g.H.HashKind.hash archive query proof (returns-clause-bound g c archive query bytes proof are asked is rooted)

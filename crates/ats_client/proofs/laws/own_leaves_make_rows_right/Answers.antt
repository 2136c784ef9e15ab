use Rattle.std.proofs.Common.{ℕ, List}
use Rattle.ats_commit.specs.Root.{root_of}
use Rattle.ats_proof.proofs.Public.{in_range}
use Rattle.ats_client.proofs.Headline.{own_rows_right}
use Rattle.ats_client.proofs.Sectioned.{accepted_shown, accepts_settled}
use Rattle.ats_client.proofs.laws.own_leaves_make_rows_right.Goals as goal

pub returns : goal.returns
returns g c archive query r bytes proof are asked is accepts own =
    let root : List ℕ = root_of g.H.HashKind.hash archive in
    own_rows_right g.H.HashKind.hash archive query root proof are asked (in_range bytes proof is) is.prefix_each is.documents
    (accepted_shown g.H.HashKind.hash root query proof r accepts) own r (accepts_settled g.H.HashKind.hash root query proof r accepts)

use Rattle.ats_commit.specs.Root.{root_of}
use Rattle.ats_proof.proofs.Public.{in_range}
use Rattle.ats_client.proofs.Headline.{own_rows_bounded}
use Rattle.ats_client.proofs.laws.own_leaves_bound_rows.Goals as goal

pub returns : goal.returns
returns g c archive query bytes proof are asked is shown own =
    own_rows_bounded g.H.HashKind.hash archive query (root_of g.H.HashKind.hash archive) proof are asked (in_range bytes proof is) is.prefix_each is.documents shown own

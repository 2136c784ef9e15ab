use Rattle.ats_proof.proofs.Public.{in_range}
use Rattle.ats_client.proofs.Headline.{top_or_collides}
use Rattle.ats_client.proofs.laws.accepted_answers_are_top.Goals as goal

pub returns : goal.returns
returns g c root query r bytes proof asked is accepts =
    top_or_collides g.H.HashKind.hash g.H.HashKind.sized root query r proof asked (in_range bytes proof is) is.prefix_each is.documents accepts

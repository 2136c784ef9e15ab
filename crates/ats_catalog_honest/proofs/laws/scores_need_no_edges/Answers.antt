use Rattle.ats_catalog_honest.proofs.ByScores.{same_proofs}
use Rattle.ats_catalog_honest.proofs.laws.scores_need_no_edges.Goals as goal

pub returns : goal.returns
returns g c = λ catalog query r by ranking shard proof is asked ranked low. same_proofs g.H.HashKind.hash catalog query r by is asked ranking ranked shard low proof

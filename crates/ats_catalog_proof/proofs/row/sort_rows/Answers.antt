use Rattle.std.proofs.Common.{rules}
use Rattle.std.proofs.lemmas.List.Sorted.{answers_always}
use Rattle.ats_catalog_honest.specs.Ranking.{Ranked}
use Rattle.ats_catalog_proof.proofs.row.sort_rows.Goals as goal

pub returns-clause-ordered : goal.returns-clause-ordered
returns-clause-ordered c =
    c.in_ok-sort_by_key.ensures.sorted (λ (row : Ranked). (record { 0 = row.score }, row.shard, row.doc)) (answers_always _ _ _ (λ f a r g called. search rules))

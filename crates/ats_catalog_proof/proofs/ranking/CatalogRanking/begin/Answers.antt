use Rattle.std.proofs.Common.{ℕ, List, [], sym, subst}
use Rattle.ats_catalog_honest.specs.Ranking.{Ranked}
use Rattle.ats_catalog_proof.specs.Ranking.{IsRankingOf}
use Rattle.ats_catalog_proof.specs.RankingState.{RankingState}
use Rattle.ats_catalog_proof.proofs.Steps.{none_ranked}
use Rattle.ats_catalog_proof.proofs.ranking.CatalogRanking.begin.Goals as goal

pub returns : goal.returns
returns g c =
    let H = g.H.HashKind.hash in
    let query = c.args.query.now in
    let r = c.args.top in
    let state : List (List ℕ) → List Ranked → RankingState = λ roots rows. record { query = query; r = r; roots = roots; rows = rows } in
    subst (λ (rows : List Ranked). IsRankingOf H [] query r (state c.new.result.items rows)) (sym c.new-2.ensures.items)
    (subst (λ (roots : List (List ℕ)). IsRankingOf H [] query r (state roots [])) (sym c.new.ensures.items)
    (none_ranked H query r c.len.ensures.query))

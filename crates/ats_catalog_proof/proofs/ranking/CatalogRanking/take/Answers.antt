use Rattle.std.proofs.Common.{◌≡◌, ◌+◌, ◌++◌, ℕ, List, length, subst, arith, rules}
use Rattle.ats_impact.specs.declared.rank.Row.{Row}
use Rattle.ats_impact.specs.Rank.{IsRanking}
use Rattle.ats_catalog_honest.specs.Ranking.{Ranked}
use Rattle.ats_catalog_proof.specs.Inner.First.{AreFirst, in_shard}
use Rattle.ats_catalog_proof.specs.Ranking.{HasRanked}
use Rattle.ats_catalog_proof.specs.RankingState.{RankingState}
use Rattle.ats_catalog_proof.proofs.Steps.{one_ranked, taken}
use Rattle.ats_catalog_proof.proofs.ranking.CatalogRanking.take.Goals as goal

pub returns-clause-taken : goal.returns-clause-taken
returns-clause-taken g c =
    let H = g.H.HashKind.hash in
    let index = c.args.index.now in
    let inside = c.self.inside in
    let old : RankingState = record { query = inside.query.now; r = inside.top; roots = inside.roots.items; rows = inside.rows.items } in
    let rows : List Ranked = c.in_ok-rows.rows.items in
    let found : List Row = c.in_ok-found.found in
    let count : c.get-count.result + 1 ≡ old.r + 1 = omega (arith, c.get-count.ensures.value) in
    let ranked : IsRanking index.texts old.query (old.r + 1) found =
    subst (λ (texts : List (List ℕ)). IsRanking texts old.query (old.r + 1) found) c.collection.ensures.same
    (subst (λ (n : ℕ). IsRanking c.collection.result.now old.query n found) count c.in_ok-found.ensures) in
    let many : c.len-shard.result ≡ length inside.roots.items = search rules in
    let first : AreFirst (old.r + 1) (old.rows ++ in_shard (length old.roots) found) rows =
    subst (λ (xs : List Ranked). AreFirst (old.r + 1) (xs ++ in_shard (length old.roots) found) rows) c.deref.ensures.value
    (subst (λ (n : ℕ). AreFirst (old.r + 1) (c.deref.result.now ++ in_shard n found) rows) many
    (subst (λ (fs : List Row). AreFirst (old.r + 1) (c.deref.result.now ++ in_shard c.len-shard.result fs) rows) c.as_slice.ensures
    (subst (λ (k : ℕ). AreFirst k (c.deref.result.now ++ in_shard c.len-shard.result c.as_slice.result.now) rows) count c.in_ok-rows.ensures))) in
    subst (λ (before : RankingState). HasRanked H index before (taken H old c.push.new.self.items rows)) c.self.view_is
    (one_ranked H index old c.root.result c.push.new.self.items rows found c.collection.ensures.texts c.root.ensures c.in_ok-push.ensures.items ranked first)

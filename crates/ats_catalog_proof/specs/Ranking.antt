-- The first rows of the shards that were taken.
use Rattle.std.specs.Prelude.{◌≡◌, ◌+◌, ◌++◌, ◌∷◌, [], ℕ, List, take}
use Rattle.std.specs.List.{All}
use Rattle.ats_terms.specs.Query.{IsQuery}
use Rattle.ats_commit.specs.Archive.{Archive}
use Rattle.ats_commit.specs.Own.{AreTexts}
use Rattle.ats_catalog_bytes.specs.Catalog.{roots_of}
use Rattle.ats_catalog_check.specs.Headline.{score_in, size_in}
use Rattle.ats_catalog_honest.specs.Ranking.{IsRankedBy, Ranked}
use Rattle.ats_catalog_proof.specs.RankingState.{RankingState}

-- A ranking for r rows that has taken these archives: their roots, and the first rows of the plain ranking of their
-- documents. The row after the first r tells where the edge below them is.
pub record IsRankingOf (H : List ℕ → List ℕ) (catalog : List Archive) (query : List (List ℕ × ℕ)) (r : ℕ) (state : RankingState) : Type 0 where
  pub asked : state.query ≡ query
  pub valid : IsQuery query
  pub most : state.r ≡ r
  pub texts : All (λ (archive : Archive). AreTexts archive.texts) catalog
  pub roots : state.roots ≡ roots_of H catalog
  pub ranking : List Ranked
  pub ranked : IsRankedBy (size_in catalog) (score_in catalog query) ranking
  pub rows : state.rows ≡ take (r + 1) ranking

-- a ranking took the index of this archive
pub record HasRanked (H : List ℕ → List ℕ) (archive : Archive) (before after : RankingState) : Type 0 where
  pub roots : after.roots ≡ before.roots ++ roots_of H (archive ∷ [])
  pub goes : (catalog : List Archive) (query : List (List ℕ × ℕ)) (r : ℕ)
      → IsRankingOf H catalog query r before → IsRankingOf H (catalog ++ archive ∷ []) query r after

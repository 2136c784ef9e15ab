-- The first pass over the indexes of a catalog: a ranking that takes one after another.
use Rattle.std.proofs.Common.{◌≡◌, ◌++◌, ◌∷◌, ◌<◌, ◌≤◌, ◌+◌, ℕ, List, [], length, get_or, ap, arith}
use Rattle.std.proofs.lemmas.List.{length-append}
use Rattle.ats_base.specs.Outside.{ShelfTold}
use Rattle.ats_commit.specs.Archive.{Archive}
use Rattle.ats_commit.specs.Root.{root_of}
use Rattle.ats_catalog_proof.specs.Ranking.{HasRanked, IsRankingOf}
use Rattle.ats_catalog_proof.specs.RankingState.{RankingState}
use Rattle.ats_plan.specs.Runs.{IsDone}
use Rattle.ats_console.specs.Names.{reads_archives}
use Rattle.ats_console.specs.Steps.{reads_index, comes_to}
use Rattle.ats_console.proofs.Public.{AreSoFar, none_so_far, so_far_more, all_read_so}

module _ (H : List ℕ → List ℕ) where
  -- the indexes of the first names were taken; an empty ranking becomes that of their archives
  pub record AreRanked (before now : ShelfTold) (old new : RankingState) (names : List (List ℕ)) (i : ℕ) : Type 0 where
    pub archives : List Archive
    pub goes : (query : List (List ℕ × ℕ)) (r : ℕ) → IsRankingOf H [] query r old → IsRankingOf H archives query r new
    pub many : length new.roots ≡ length old.roots + i
    pub so_far : AreSoFar H before now names i archives

  pub none_ranked : (before : ShelfTold) (ranking : RankingState) (names : List (List ℕ)) → AreRanked before before ranking ranking names 0
  none_ranked before ranking names = record {
    archives = [];
    goes = λ query r is. is;
    many = omega arith;
    so_far = none_so_far H before names;
  }

  pub more_ranked : (before mid : ShelfTold) (old now : RankingState) (names : List (List ℕ)) (i : ℕ) (name : List ℕ) → i < length names → name ≡ get_or names i name
      → AreRanked before mid old now names i → (next : ShelfTold) (new : RankingState) (archive : Archive) → HasRanked H archive now new
      → IsDone (reads_index H name (comes_to archive)) mid next [] → AreRanked before next old new names (i + 1)
  more_ranked before mid old now names i name less is are next new archive took reads = record {
    archives = are.archives ++ archive ∷ [];
    goes = λ query r empty. took.goes are.archives query r (are.goes query r empty);
    many = omega (arith, ap length took.roots, length-append now.roots (root_of H archive ∷ []), are.many);
    so_far = so_far_more H before mid names i name less is are.archives are.so_far next archive reads;
  }

  -- all were taken
  pub all_ranked : (before now : ShelfTold) (old new : RankingState) (names : List (List ℕ)) (i : ℕ) → length names ≤ i → AreRanked before now old new names i
      → (query : List (List ℕ × ℕ)) (r : ℕ) → IsRankingOf H [] query r old
      → (catalog : List Archive) × IsRankingOf H catalog query r new × IsDone (reads_archives H [] names (comes_to catalog)) before now []
  all_ranked before now old new names i past are query r empty =
      (are.archives, are.goes query r empty, all_read_so H before now names i past are.archives are.so_far)

-- Both passes over the indexes of a catalog are done: what is left of the plan, and what the bytes of the file are.
use Rattle.std.proofs.Common.{◌≡◌, ◌∙◌, ◌≤◌, ◌^◌, ℕ, List, [], length, sym, ap, subst, arith}
use Rattle.std.specs.List.{AllZip}
use Rattle.std.proofs.lemmas.List.{length-map}
use Rattle.std.proofs.lemmas.Slice.Zip.{AllZip-long}
use Rattle.ats_base.specs.Outside.{ShelfTold}
use Rattle.ats_commit.specs.Archive.{Archive}
use Rattle.ats_commit.specs.Root.{root_of}
use Rattle.ats_proof.specs.Written.{writing}
use Rattle.ats_proof.specs.declared.record.Algorithm.{Algorithm}
use Rattle.ats_catalog_bytes.specs.Catalog.{roots_of}
use Rattle.ats_catalog_honest.specs.Honest.{IsProvedCatalog}
use Rattle.ats_catalog_proof.specs.Proving.{IsProving}
use Rattle.ats_catalog_proof.specs.ProvingState.{ProvingState}
use Rattle.ats_catalog_proof.specs.Ranking.{IsRankingOf}
use Rattle.ats_catalog_proof.specs.RankingState.{RankingState}
use Rattle.ats_catalog_proof.specs.Written.{bytes_of}
use Rattle.ats_plan.specs.Files.{Files}
use Rattle.ats_plan.specs.Runs.{IsDone}
use Rattle.ats_plan.specs.Plan.{Stores}
use Rattle.ats_plan.proofs.Public.{Leads, leads_try}
use Rattle.ats_console.specs.Names.{reads_archives}
use Rattle.ats_console.specs.Read.{HasIndex}
use Rattle.ats_console.specs.Steps.{comes_to}
use Rattle.ats_console.specs.Words.{ProveCatalogWords}
use Rattle.ats_console.specs.declared.stops.Stop.TheVariants.{Shelf, Memory}
use Rattle.ats_console.proofs.Public.{has_archives, same_archives}
use Rattle.ats_makers.specs.Commands.{IsCatalogFile, IsCatalogStored, IsFileShort, asked_by, proves_names, proves_shards}
use Rattle.ats_makers.specs.Inner.Catalogs.{HasWritten}
use Rattle.ats_makers.proofs.ShardSteps.{AreProofsOver, has_proofs, same_shards, same_roots}
use Rattle.ats_makers.proofs.Proved.{bytes_written, is_proving}
use Rattle.ats_makers.proofs.CatalogSteps.{then_stores, leads_second, as_many}

module _ (H : List ℕ → List ℕ) (words : ProveCatalogWords) (names : List (List ℕ)) (query : List (List ℕ × ℕ)) (ranking : RankingState) (state : ProvingState) (before mid next : ShelfTold) where
  -- the first pass made this ranking, and the second this prover
  pub record ArePassed : Type 0 where
    pub catalog : List Archive
    pub is : IsRankingOf H catalog query words.r ranking
    pub read : IsDone (reads_archives H [] names (comes_to catalog)) before mid []
    pub proofs : List (List ℕ)
    pub written : HasWritten ranking words.algorithm proofs state
    pub made : IsDone (proves_shards H catalog (asked_by H query words.algorithm words.r is.ranking) [] names (comes_to proofs)) mid next []

  pub all_passed : (catalog : List Archive) × IsRankingOf H catalog query words.r ranking × IsDone (reads_archives H [] names (comes_to catalog)) before mid []
      → (proofs : List (List ℕ)) × HasWritten ranking words.algorithm proofs state
      × ((catalog : List Archive) (query : List (List ℕ × ℕ)) (r : ℕ) → (is : IsRankingOf H catalog query r ranking)
      → IsDone (proves_shards H catalog (asked_by H query words.algorithm r is.ranking) [] names (comes_to proofs)) mid next [])
      → ArePassed
  all_passed got made = record {
    catalog = got.0;
    is = got.1;
    read = got.2;
    proofs = made.0;
    written = made.1;
    made = made.2 got.0 query words.r got.1;
  }

  module _ (passed : ArePassed) where
    pub leads_file : Leads Shelf Memory (proves_names H words names query) before (then_stores H words names query passed.catalog passed.proofs) next
    leads_file = leads_second H words names query before mid passed.catalog passed.read passed.is.ranking passed.is.ranked next passed.proofs passed.made

    pub file_bytes : state.written ≡ writing (2 ^ 28) (bytes_of (roots_of H passed.catalog) passed.proofs)
    file_bytes = bytes_written H passed.catalog query words.r ranking words.algorithm passed.proofs state passed.is passed.written

    -- the bytes of the file are within the limit
    pub leads_stored : (bytes : List ℕ) → bytes ≡ bytes_of (roots_of H passed.catalog) passed.proofs → IsFileShort (bytes_of (roots_of H passed.catalog) passed.proofs)
        → Leads Shelf Memory (proves_names H words names query) before (Stores words.file bytes (λ files now text. IsCatalogStored H files now words text)) next
    leads_stored bytes same short =
        subst (λ (b : List ℕ). Leads Shelf Memory (proves_names H words names query) before (Stores words.file b (λ files now text. IsCatalogStored H files now words text)) next) (sym same)
        (leads_try leads_file short)

    archives : length names ≡ length passed.catalog
    archives = as_many H words names query before mid passed.catalog passed.read

    again : (again : List Archive) × AllZip (HasIndex H next.files) names again
        × AreProofsOver H passed.catalog (asked_by H query words.algorithm words.r passed.is.ranking) 0 again passed.proofs
    again = has_proofs H passed.catalog (asked_by H query words.algorithm words.r passed.is.ranking) names passed.proofs passed.made

    pub every : state.proved ≡ length names
    every = omega (arith, passed.written.many, again.2.many, AllZip-long (HasIndex H next.files) names again.0 again.1)

    pub whole : state.proved ≡ length state.ranking.roots
    whole =
        omega (arith, every, archives, ap (λ (s : RankingState). length s.roots) passed.written.kept, ap length passed.is.roots, length-map passed.catalog (root_of H))

    pub same_files : next.files ≡ before.files
    same_files =
        same_shards H passed.catalog (asked_by H query words.algorithm words.r passed.is.ranking) names passed.proofs passed.made ∙ same_archives H names passed.catalog passed.read

    pub is_file : (bytes : List ℕ) → length bytes ≤ 2 ^ 28
        → ((catalog : List Archive) (query : List (List ℕ × ℕ)) (r : ℕ) → IsProving H catalog query r state → IsProvedCatalog H catalog query r (λ _. state.algorithm) bytes)
        → IsCatalogFile H next.files names query words.r words.algorithm bytes
    is_file bytes short proved = record {
      catalog = passed.catalog;
      indexes = subst (λ (files : Files). AllZip (HasIndex H files) names passed.catalog)
          (sym (same_shards H passed.catalog (asked_by H query words.algorithm words.r passed.is.ranking) names passed.proofs passed.made))
          (has_archives H names passed.catalog passed.read);
      again = again.0;
      reread = again.1;
      roots = same_roots H passed.catalog (asked_by H query words.algorithm words.r passed.is.ranking) again.0 passed.proofs
          (omega (arith, AllZip-long (HasIndex H next.files) names again.0 again.1, archives)) again.2;
      proved = λ same.
          subst (λ (a : Algorithm). IsProvedCatalog H passed.catalog query words.r (λ _. a) bytes) passed.written.by
          (proved passed.catalog query words.r
          (is_proving H passed.catalog query words.r ranking words.algorithm passed.proofs state passed.is passed.written again.0 again.2 same));
      short = short;
    }

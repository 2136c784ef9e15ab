-- The steps of the making of a catalog's file, up to its storing.
use Rattle.std.proofs.Common.{◌≡◌, ◌^◌, ℕ, List, [], length, refl, sym, inl, inr}
use Rattle.std.proofs.lemmas.Slice.Zip.{AllZip-long}
use Rattle.ats_base.specs.Outside.{ShelfTold}
use Rattle.ats_commit.specs.Archive.{Archive}
use Rattle.ats_proof.specs.Value.{Proof}
use Rattle.ats_terms.specs.Query.{IsQueryOf}
use Rattle.ats_catalog_bytes.specs.Catalog.{roots_of}
use Rattle.ats_catalog_check.specs.Headline.{score_in, size_in}
use Rattle.ats_catalog_honest.specs.Ranking.{IsRankedBy, Ranked}
use Rattle.ats_catalog_proof.specs.Proving.{HasRootOf}
use Rattle.ats_catalog_proof.specs.Written.{bytes_of}
use Rattle.ats_plan.specs.Plan.{Plan, Gets, Makes, Stores, Tries}
use Rattle.ats_plan.specs.Runs.{IsDone, IsStopped}
use Rattle.ats_plan.proofs.Public.{Leads, leads_none, leads_get, leads_make, leads_try, done_end}
use Rattle.ats_console.specs.Lists.{IsListOf, IsListStop}
use Rattle.ats_console.specs.Names.{SpellsName, reads_archives}
use Rattle.ats_console.specs.Read.{HasIndex}
use Rattle.ats_console.specs.Steps.{IsRowCount, reads_file, reads_index, no_more, comes_to}
use Rattle.ats_console.specs.Words.{ProveCatalogWords}
use Rattle.ats_console.specs.declared.stops.Stop.{Stop}
use Rattle.ats_console.specs.declared.stops.Stop.TheVariants.{Shelf, Memory}
use Rattle.ats_console.proofs.Public.{leads_ranking, leads_bytes, leads_index, leads_archives, get_stops, try_stops, memory_stops, has_archives}
use Rattle.ats_makers.specs.Commands.{IsCatalogStored, IsFileShort, IsFileLong, IsShardMade, asked_by, proves_shard, proves_shards, proves_catalog, proves_names, prove_catalog_plan}
use Rattle.ats_makers.specs.Inner.Catalogs.{IsShardStop}
use Rattle.ats_makers.proofs.ShardSteps.{leads_shards}

-- ---- one shard

module _ (H : List ℕ → List ℕ) (catalog : List Archive) (asked : Archive → ℕ → Proof → Type 0) (shard : ℕ) (name : List ℕ) where
  module _ (before now : ShelfTold) (archive : Archive) (read : IsDone (reads_index H name (comes_to archive)) before now []) where
    -- the shard has its proof
    pub shard_done : (proof : List ℕ) → HasRootOf H catalog shard archive → IsShardMade (asked archive shard) proof
        → IsDone (proves_shard H catalog asked shard name (comes_to proof)) before now []
    shard_done proof root made =
        (leads_get proof (leads_try (leads_index (leads_none {plan = proves_shard H catalog asked shard name (comes_to proof)}) read) root) made).does now [] (done_end refl)

    -- it has none
    pub shard_stopped : (stop : Stop) → IsShardStop H catalog asked shard archive stop
        → IsStopped Shelf Memory (proves_shard H catalog asked shard name (λ proof. no_more)) before now stop
    shard_stopped stop why = elim why [
      | inl memory ↦ memory_stops (leads_index (leads_none {plan = proves_shard H catalog asked shard name (λ proof. no_more)}) read) memory
      | inr (inl other) ↦ try_stops (leads_index (leads_none {plan = proves_shard H catalog asked shard name (λ proof. no_more)}) read) (inr other)
      | inr (inr (root, unmade)) ↦
          get_stops (leads_try (leads_index (leads_none {plan = proves_shard H catalog asked shard name (λ proof. no_more)}) read) root) (inr unmade)
    ]

-- ---- the passes

module _ (H : List ℕ → List ℕ) (words : ProveCatalogWords) (names : List (List ℕ)) (query : List (List ℕ × ℕ)) where
  -- what comes after the archives
  abbrev pub then_proves : List Archive → Plan Stop
  then_proves catalog = Makes (List Ranked) (IsRankedBy (size_in catalog) (score_in catalog query)) (λ ranking. proves_catalog H words names query catalog ranking)

  -- what comes after the proofs
  abbrev pub then_stores : List Archive → List (List ℕ) → Plan Stop
  then_stores catalog proofs =
      Tries (IsFileShort (bytes_of (roots_of H catalog) proofs)) (IsFileLong (bytes_of (roots_of H catalog) proofs))
      (Stores words.file (bytes_of (roots_of H catalog) proofs) (λ before now text. IsCatalogStored H before now words text))

  module _ (before mid : ShelfTold) (catalog : List Archive) (read : IsDone (reads_archives H [] names (comes_to catalog)) before mid []) where
    -- the first pass is done
    pub leads_first : Leads Shelf Memory (proves_names H words names query) before (then_proves catalog) mid
    leads_first = leads_archives H then_proves names catalog leads_none read

    module _ (ranking : List Ranked) (ranked : IsRankedBy (size_in catalog) (score_in catalog query) ranking) where
      pub leads_ranked : Leads Shelf Memory (proves_names H words names query) before (proves_catalog H words names query catalog ranking) mid
      leads_ranked = leads_make ranking leads_first ranked

      -- the second is done, too
      pub leads_second : (next : ShelfTold) (proofs : List (List ℕ))
          → IsDone (proves_shards H catalog (asked_by H query words.algorithm words.r ranking) [] names (comes_to proofs)) mid next []
          → Leads Shelf Memory (proves_names H words names query) before (then_stores catalog proofs) next
      leads_second next proofs made =
          leads_shards H catalog (asked_by H query words.algorithm words.r ranking) (then_stores catalog) names proofs leads_ranked made

    -- there is an archive for each name
    pub as_many : length names ≡ length catalog
    as_many = sym (AllZip-long (HasIndex H mid.files) names catalog (has_archives H names catalog read))

-- ---- the list

module _ (H : List ℕ → List ℕ) (words : ProveCatalogWords) (query : List (List ℕ × ℕ)) (rows : IsRowCount words.r) (asked : IsQueryOf words.query query) where
  module _ (before mid : ShelfTold) (listed : List ℕ) (read : IsDone (reads_file words.list (2 ^ 20) (comes_to listed)) before mid []) where
    -- the list was read
    pub leads_listed : Leads Shelf Memory (prove_catalog_plan H words) before (Gets (List (List ℕ)) (IsListOf SpellsName 4096 listed) (IsListStop SpellsName 4096 listed)
        (λ names. proves_names H words names query)) mid
    leads_listed = leads_bytes (leads_ranking leads_none rows asked) read

    -- its lines are names
    pub leads_names : (names : List (List ℕ)) → IsListOf SpellsName 4096 listed names → Leads Shelf Memory (prove_catalog_plan H words) before (proves_names H words names query) mid
    leads_names names list = leads_get names leads_listed list

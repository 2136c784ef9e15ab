-- The steps of the audit of a catalog's answer, up to the check.
use Rattle.std.proofs.Common.{◌^◌, ℕ, List, []}
use Rattle.ats_base.specs.Outside.{ShelfTold}
use Rattle.ats_terms.specs.Query.{IsQueryOf}
use Rattle.ats_commit.specs.Archive.{Archive}
use Rattle.ats_catalog_bytes.specs.Value.{Framed, IsCatalogProof}
use Rattle.ats_plan.specs.Plan.{Plan, Finishes, Gets}
use Rattle.ats_plan.specs.Runs.{IsDone, IsStopped}
use Rattle.ats_plan.proofs.Public.{Leads, leads_none, leads_get}
use Rattle.ats_console.specs.Lists.{IsListOf, IsListStop}
use Rattle.ats_console.specs.Names.{SpellsName, reads_archives}
use Rattle.ats_console.specs.Steps.{IsRowCount, reads_file, reads_shaped, no_more, comes_to}
use Rattle.ats_console.specs.Words.{AuditCatalogWords}
use Rattle.ats_console.specs.declared.stops.Stop.{Stop}
use Rattle.ats_console.specs.declared.stops.Stop.TheVariants.{Shelf, Memory}
use Rattle.ats_console.proofs.Public.{leads_ranking, leads_bytes, leads_archives, at_archives}
use Rattle.ats_auditors.specs.Audited.{audits_bytes, catalog_audit}
use Rattle.ats_auditors.specs.Commands.{IsCatalogAudited, audits_catalog, audit_catalog_plan}

-- what comes after the archives
abbrev pub then_audits : (List ℕ → List ℕ) → AuditCatalogWords → List (List ℕ × ℕ) → (bytes : List ℕ) → List Archive → Plan Stop
then_audits H words query bytes catalog =
    audits_bytes H (catalog_audit H catalog query words.r) bytes (λ shards. Finishes (λ files text. IsCatalogAudited H files words text))

module _ (H : List ℕ → List ℕ) (words : AuditCatalogWords) (names : List (List ℕ)) (query : List (List ℕ × ℕ)) (bytes : List ℕ) where
  leads_shown : (before : ShelfTold) (shown : List Framed) → IsCatalogProof bytes shown
      → Leads Shelf Memory (audits_catalog H words names query bytes) before (reads_archives H [] names (then_audits H words query bytes)) before
  leads_shown before shown says = leads_get shown leads_none says

  -- an index was not read
  pub archives_stop : (before now : ShelfTold) (stop : Stop) (shown : List Framed) → IsCatalogProof bytes shown
      → IsStopped Shelf Memory (reads_archives H [] names (λ archives. no_more)) before now stop
      → IsStopped Shelf Memory (audits_catalog H words names query bytes) before now stop
  archives_stop before now stop shown says stopped =
      (leads_shown before shown says).stops now stop (at_archives H (then_audits H words query bytes) names stopped)

  -- all were
  pub leads_audited : (before next : ShelfTold) (shown : List Framed) → IsCatalogProof bytes shown → (archives : List Archive)
      → IsDone (reads_archives H [] names (comes_to archives)) before next []
      → Leads Shelf Memory (audits_catalog H words names query bytes) before (then_audits H words query bytes archives) next
  leads_audited before next shown says archives done = leads_archives H (then_audits H words query bytes) names archives (leads_shown before shown says) done

module _ (H : List ℕ → List ℕ) (words : AuditCatalogWords) (query : List (List ℕ × ℕ)) (rows : IsRowCount words.r) (asked : IsQueryOf words.query query) where
  module _ (before mid : ShelfTold) (listed : List ℕ) (read : IsDone (reads_file words.list (2 ^ 20) (comes_to listed)) before mid []) where
    -- the list was read
    pub leads_listed : Leads Shelf Memory (audit_catalog_plan H words) before (Gets (List (List ℕ)) (IsListOf SpellsName 4096 listed) (IsListStop SpellsName 4096 listed)
        (λ names. reads_shaped words.file (2 ^ 28) (λ bytes. audits_catalog H words names query bytes))) mid
    leads_listed = leads_bytes (leads_ranking leads_none rows asked) read

    -- its lines are names
    pub leads_names : (names : List (List ℕ)) → IsListOf SpellsName 4096 listed names
        → Leads Shelf Memory (audit_catalog_plan H words) before (reads_shaped words.file (2 ^ 28) (λ bytes. audits_catalog H words names query bytes)) mid
    leads_names names list = leads_get names leads_listed list

    -- the file was read
    pub leads_file : (next : ShelfTold) (names : List (List ℕ)) (bytes : List ℕ) → IsListOf SpellsName 4096 listed names
        → IsDone (reads_shaped words.file (2 ^ 28) (comes_to bytes)) mid next []
        → Leads Shelf Memory (audit_catalog_plan H words) before (audits_catalog H words names query bytes) next
    leads_file next names bytes list shown = leads_bytes (leads_names names list) shown

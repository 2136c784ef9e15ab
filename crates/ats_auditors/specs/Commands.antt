-- The plans of the commands that audit files.
use Rattle.std.specs.List.{AllZip, list_any}
use Rattle.std.specs.Prelude.{ℕ, List, ◌≡◌, ◌^◌, ◌<◌, ◌≤◌, ◌++◌, ◌∷◌, true, false, []}
use Rattle.ats_terms.specs.Query.{IsQueryOf}
use Rattle.ats_commit.specs.Archive.{Archive}
use Rattle.ats_commit.specs.Root.{root_of}
use Rattle.ats_client.specs.Bytes.{IsAcceptedBytes}
use Rattle.ats_client.specs.Headline.{AreRight}
use Rattle.ats_client.specs.Rows.{rows_of}
use Rattle.ats_client.specs.Strings.{proof_collision}
use Rattle.ats_all_check.specs.Bytes.{AreAcceptedBytes}
use Rattle.ats_all_check.specs.Documents.{both, documents_shown}
use Rattle.ats_text_check.specs.Bytes.{IsAcceptedText}
use Rattle.ats_text_check.specs.Strings.{text_collision, IsOwnText}
use Rattle.ats_growth_check.specs.Bytes.{IsAcceptedGrowth}
use Rattle.ats_growth_check.specs.Headline.{HasGrown}
use Rattle.ats_growth_check.specs.Strings.{growth_collision}
use Rattle.ats_grammar.specs.Front.{IsBad}
use Rattle.ats_grammar.specs.declared.fault.ShapeFault.{ShapeFault}
use Rattle.ats_refusal.specs.declared.proof.Rejection.TheVariants.{Shape}
use Rattle.ats_catalog_bytes.specs.Catalog.{catalog_root}
use Rattle.ats_catalog_bytes.specs.Grammar.{catalog_schema}
use Rattle.ats_catalog_bytes.specs.Value.{Framed, IsCatalogProof}
use Rattle.ats_catalog_check.specs.Accepts.{merged_rows}
use Rattle.ats_catalog_check.specs.Headline.{AreRightIn}
use Rattle.ats_catalog_audit.specs.Verdicts.{AreAcceptedShards, shards_collision}
use Rattle.ats_plan.specs.Files.{Files}
use Rattle.ats_plan.specs.Plan.{Plan, Finishes, Tries, Gets, Makes, Reads}
use Rattle.ats_console.specs.Kinds.{printed_text, line_of_grown}
use Rattle.ats_console.specs.Print.{lines, lines_of_catalog, lines_of_documents}
use Rattle.ats_console.specs.Read.{HasIndex}
use Rattle.ats_console.specs.Names.{HasNames, reads_names, reads_archives}
use Rattle.ats_console.specs.RejectionLines.{line_of_rejection}
use Rattle.ats_console.specs.Steps.{AsksRanking, asks_ranking, reads_index, asks_query, reads_file, reads_shaped}
use Rattle.ats_console.specs.Lists.{IsListOf, IsListStop}
use Rattle.ats_console.specs.Stops.{line_of_long_proofs}
use Rattle.ats_console.specs.Words.{AuditorCommand, AuditWords, AuditFetchWords, AuditBothWords, AuditGrowthWords, AuditCatalogWords, SweepWords, TrialWords}
use Rattle.ats_console.specs.declared.stops.Stop.{Stop}
use Rattle.ats_console.specs.declared.stops.Stop.TheVariants.{Input, Rejected, Collision}
use Rattle.ats_auditors.specs.Audited.{proof_audit, audits_named, audits_bytes, text_audit, both_audit, growth_audit, catalog_audit}
use Rattle.ats_auditors.specs.Collided.{IsClear}
use Rattle.ats_auditors.specs.Findings.{Finding, AreFindings, IsSwept, is_refused, is_collision, lines_of_findings}
use Rattle.ats_auditors.specs.Gathered.{total}
use Rattle.ats_auditors.specs.Listed.{Listed, IsListed, names_of}
use Rattle.ats_auditors.specs.Trial.{IsTrial, IsTrialAccepted, RefusesTrial}
use Rattle.ats_auditors.specs.declared.gathering.Gathered.{Gathered}
use Rattle.ats_auditors.specs.declared.gathering.Gathered.TheVariants.{Whole, Long}
use Rattle.ats_console.specs.Words as command

-- ---- `audit INDEX R QUERY PROOF`

-- The archive is that of the named index, the second file is accepted as a proof under its root and has no collision with
-- it, and the text is the lines of the rows of the answer, which are right for the archive's texts.
pub record IsAuditedRight (H : List ℕ → List ℕ) (files : Files) (words : AuditWords) (text : List ℕ) : Type 0 where
  pub asks : AsksRanking words.r words.query
  pub query : List (List ℕ × ℕ)
  pub asked : IsQueryOf words.query query
  pub archive : Archive
  pub index : HasIndex H files words.index archive
  pub clear : IsClear (2 ^ 26) (IsAcceptedBytes H (root_of H archive) query words.r) (proof_collision H archive query) files words.proof
  pub right : AreRight archive.texts query words.r (rows_of query clear.checked.value)
  pub printed : text ≡ lines (rows_of query clear.checked.value)

abbrev pub audit_plan : (List ℕ → List ℕ) → AuditWords → Plan Stop
audit_plan H words =
    asks_ranking words.r words.query (λ query.
    reads_index H words.index (λ archive.
    audits_named H (proof_audit H archive query words.r) words.proof (λ proof.
    Finishes (λ files text. IsAuditedRight H files words text))))

-- ---- `audit-fetch INDEX DOC FILE`

-- The archive is that of the named index, the second file is accepted as the text of the document under its root and has
-- no collision with it, and the text, which is the archive's own, was printed with a line feed.
pub record IsFetchAudited (H : List ℕ → List ℕ) (files : Files) (words : AuditFetchWords) (text : List ℕ) : Type 0 where
  pub archive : Archive
  pub index : HasIndex H files words.index archive
  pub clear : IsClear (2 ^ 21) (IsAcceptedText H (root_of H archive) words.doc) (text_collision H archive words.doc) files words.file
  pub own : IsOwnText archive words.doc clear.checked.value
  pub printed : text ≡ printed_text clear.checked.value.text

abbrev pub audit_fetch_plan : (List ℕ → List ℕ) → AuditFetchWords → Plan Stop
audit_fetch_plan H words =
    reads_index H words.index (λ archive.
    audits_named H (text_audit H archive words.doc) words.file (λ proof.
    Finishes (λ files text. IsFetchAudited H files words text)))

-- ---- `audit-both INDEX QUERY PROOF`

-- The archive is that of the named index, the second file is accepted under its root as a proof of all documents with every
-- term of the query and has no collision with it, and the text is a line for each document that the proof shows. These are
-- all documents of the archive that have every term.
pub record IsBothAudited (H : List ℕ → List ℕ) (files : Files) (words : AuditBothWords) (text : List ℕ) : Type 0 where
  pub query : List (List ℕ × ℕ)
  pub asked : IsQueryOf words.query query
  pub archive : Archive
  pub index : HasIndex H files words.index archive
  pub clear : IsClear (2 ^ 26) (AreAcceptedBytes H (root_of H archive) query) (proof_collision H archive query) files words.proof
  pub right : documents_shown clear.checked.value ≡ both archive.texts query
  pub printed : text ≡ lines_of_documents (documents_shown clear.checked.value)

abbrev pub audit_both_plan : (List ℕ → List ℕ) → AuditBothWords → Plan Stop
audit_both_plan H words =
    asks_query words.query (λ query.
    reads_index H words.index (λ archive.
    audits_named H (both_audit H archive query) words.proof (λ proof.
    Finishes (λ files text. IsBothAudited H files words text))))

-- ---- `audit-growth OLDINDEX NEWINDEX FILE`

-- The archives are those of the two named indexes, the file is accepted as the growth from the root of the old one to that
-- of the new one and has no collision with them, nothing was withdrawn, and the line of the two numbers of documents was
-- printed.
pub record IsGrowthAudited (H : List ℕ → List ℕ) (files : Files) (words : AuditGrowthWords) (text : List ℕ) : Type 0 where
  pub older : Archive
  pub newer : Archive
  pub old : HasIndex H files words.old older
  pub new : HasIndex H files words.new newer
  pub clear : IsClear 4096 (IsAcceptedGrowth H (root_of H older) (root_of H newer)) (growth_collision H older newer) files words.file
  pub grows : HasGrown older newer clear.checked.value.old.documents clear.checked.value.new.documents
  pub printed : text ≡ line_of_grown clear.checked.value.old.documents clear.checked.value.new.documents

abbrev pub audit_growth_plan : (List ℕ → List ℕ) → AuditGrowthWords → Plan Stop
audit_growth_plan H words =
    reads_index H words.old (λ older.
    reads_index H words.new (λ newer.
    audits_named H (growth_audit H older newer) words.file (λ growth.
    Finishes (λ files text. IsGrowthAudited H files words text))))

-- ---- `audit-catalog LIST R QUERY FILE`

-- The archives are those of the indexes that the list names, as the shards of a catalog. The file is accepted under the
-- catalog's root and has no collision with it, and the text is the lines of the rows of the answer, which are right for the
-- catalog.
pub record IsCatalogAudited (H : List ℕ → List ℕ) (files : Files) (words : AuditCatalogWords) (text : List ℕ) : Type 0 where
  pub asks : AsksRanking words.r words.query
  pub query : List (List ℕ × ℕ)
  pub asked : IsQueryOf words.query query
  pub names : List (List ℕ)
  pub listed : HasNames files words.list names
  pub catalog : List Archive
  pub indexes : AllZip (HasIndex H files) names catalog
  pub clear : IsClear (2 ^ 28) (AreAcceptedShards H (catalog_root H catalog) query words.r) (shards_collision H catalog query) files words.file
  pub right : AreRightIn catalog query words.r (merged_rows query clear.checked.value.proofs)
  pub printed : text ≡ lines_of_catalog (merged_rows query clear.checked.value.proofs)

-- the line is that of the first fault of bytes that spell no proof of a catalog's answer
abbrev pub RejectsShape : (bytes : List ℕ) → Stop → Type 0
RejectsShape bytes stop = (fault : ShapeFault) × IsBad catalog_schema bytes fault × (stop ≡ Rejected (line_of_rejection (Shape fault)))

-- bytes against the archives of the named indexes. Their shape is checked before an index is read: so one index at a time is
-- enough
abbrev pub audits_catalog : (List ℕ → List ℕ) → AuditCatalogWords → (names : List (List ℕ)) → List (List ℕ × ℕ) → (bytes : List ℕ) → Plan Stop
audits_catalog H words names query bytes =
    Gets (List Framed) (IsCatalogProof bytes) (RejectsShape bytes) (λ shown.
    reads_archives H [] names (λ catalog.
    audits_bytes H (catalog_audit H catalog query words.r) bytes (λ shards.
    Finishes (λ files text. IsCatalogAudited H files words text))))

abbrev pub audit_catalog_plan : (List ℕ → List ℕ) → AuditCatalogWords → Plan Stop
audit_catalog_plan H words =
    asks_ranking words.r words.query (λ query.
    reads_names words.list (λ names.
    reads_shaped words.file (2 ^ 28) (λ bytes.
    audits_catalog H words names query bytes)))

-- ---- `sweep INDEX LIST`

-- the bytes together are more than a sweep may gather
abbrev pub PassesSweepLimit : (bytes : ℕ) → Stop → Type 0
PassesSweepLimit bytes stop = (2 ^ 28 < bytes) × (stop ≡ Input (line_of_long_proofs bytes))

-- the bytes of a proof, or that it has more than a proof may have
abbrev pub reads_gathered : (name : List ℕ) → (Gathered → Plan Stop) → Plan Stop
reads_gathered name rest = Reads name (2 ^ 26) (rest Long) (λ bytes. rest (Whole bytes))

-- the named proofs in order, after those that it has; one that is too long does not count
abbrev pub gathers : (got : List Gathered) → (names : List (List ℕ)) → (List Gathered → Plan Stop) → Plan Stop
gathers got [] rest = rest got
gathers got (name ∷ names) rest = reads_gathered name (λ proof.
    Tries (total (got ++ proof ∷ []) ≤ 2 ^ 28) (PassesSweepLimit (total (got ++ proof ∷ [])))
    (gathers (got ++ proof ∷ []) names rest))

-- no finding is a collision, and then none refuses a proof; if one does, all lines are printed
abbrev pub concludes : List Finding → Plan Stop → Plan Stop
concludes findings rest =
    Tries (list_any is_collision findings ≡ false)
    (λ stop. (list_any is_collision findings ≡ true) × (stop ≡ Collision (lines_of_findings findings)))
    (Tries (list_any is_refused findings ≡ false)
    (λ stop. (list_any is_refused findings ≡ true) × (stop ≡ Rejected (lines_of_findings findings)))
    rest)

-- the audits of the proofs of a list, and their lines
abbrev pub audits : (List ℕ → List ℕ) → SweepWords → Archive → List Listed → List Gathered → Plan Stop
audits H words archive listed proofs =
    Makes (List Finding) (AreFindings H archive listed proofs) (λ findings.
    concludes findings (Finishes (λ files text. IsSwept H files words text)))

-- the bytes of a list, against the archive of the index
abbrev pub sweeps : (List ℕ → List ℕ) → SweepWords → Archive → (bytes : List ℕ) → Plan Stop
sweeps H words archive bytes =
    Gets (List Listed) (IsListOf IsListed 1000 bytes) (IsListStop IsListed 1000 bytes) (λ listed.
    gathers [] (names_of listed) (audits H words archive listed))

abbrev pub sweep_plan : (List ℕ → List ℕ) → SweepWords → Plan Stop
sweep_plan H words =
    reads_index H words.index (λ archive.
    reads_file words.list (2 ^ 20) (λ bytes.
    sweeps H words archive bytes))

-- ---- `trial NUMBER`

abbrev pub trial_plan : (List ℕ → List ℕ) → TrialWords → Plan Stop
trial_plan H words =
    Tries (IsTrialAccepted H words.number) (RefusesTrial H words.number)
    (Finishes (λ files text. IsTrial H words.number text))

-- ---- all

abbrev pub auditor_plan : (List ℕ → List ℕ) → AuditorCommand → Plan Stop
auditor_plan H (command.Audit words) = audit_plan H words
auditor_plan H (command.AuditFetch words) = audit_fetch_plan H words
auditor_plan H (command.AuditBoth words) = audit_both_plan H words
auditor_plan H (command.AuditGrowth words) = audit_growth_plan H words
auditor_plan H (command.AuditCatalog words) = audit_catalog_plan H words
auditor_plan H (command.Sweep words) = sweep_plan H words
auditor_plan H (command.Trial words) = trial_plan H words

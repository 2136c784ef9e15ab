-- The plans of the commands that check a file against roots only.
use Rattle.std.specs.Prelude.{ℕ, List, ◌≡◌, ◌^◌}
use Rattle.ats_terms.specs.Query.{IsQueryOf}
use Rattle.ats_client.specs.Bytes.{IsAcceptedBytes}
use Rattle.ats_client.specs.Headline.{IsTopOrCollides}
use Rattle.ats_client.specs.Rows.{rows_of}
use Rattle.ats_all_check.specs.Bytes.{AreAcceptedBytes}
use Rattle.ats_all_check.specs.Documents.{documents_shown}
use Rattle.ats_all_check.specs.Headline.{AreBothOrCollide}
use Rattle.ats_catalog_bytes.specs.Catalog.{root_over}
use Rattle.ats_catalog_check.specs.Accepts.{AreRowsOf}
use Rattle.ats_catalog_check.specs.Bytes.{IsAcceptedCatalog}
use Rattle.ats_catalog_check.specs.Headline.{IsCatalogTopOrCollides}
use Rattle.ats_catalog_check.specs.declared.row.CatalogRow.{CatalogRow}
use Rattle.ats_text_check.specs.Bytes.{IsAcceptedText}
use Rattle.ats_text_check.specs.Strings.{IsOwnOrCollides}
use Rattle.ats_growth_check.specs.Bytes.{IsAcceptedGrowth}
use Rattle.ats_growth_check.specs.Headline.{IsGrownOrCollides}
use Rattle.ats_audit.specs.Verdicts.{IsTopOrTold}
use Rattle.ats_catalog_audit.specs.Verdicts.{IsCatalogTopOrTold}
use Rattle.ats_text_proof.specs.Verdicts.{IsOwnOrTold}
use Rattle.ats_all_proof.specs.Verdicts.{AreBothOrTold}
use Rattle.ats_growth_proof.specs.Verdicts.{IsGrownOrTold}
use Rattle.ats_plan.specs.Files.{Files}
use Rattle.ats_plan.specs.Plan.{Plan, Finishes}
use Rattle.ats_console.specs.Kinds.{IsChecked, proof_kind, checks_named, text_kind, printed_text, both_kind, growth_kind, line_of_grown, catalog_kind}
use Rattle.ats_console.specs.Print.{IsPublished, lines, lines_of_catalog, lines_of_documents}
use Rattle.ats_console.specs.Roots.{HasRoots, reads_roots}
use Rattle.ats_console.specs.Steps.{AsksRanking, asks_ranking, asks_query}
use Rattle.ats_console.specs.Words.{CheckerCommand, VerifyWords, FetchWords, BothWords, GrowthWords, CatalogRootWords, CatalogWords}
use Rattle.ats_console.specs.declared.stops.Stop.{Stop}
use Rattle.ats_console.specs.Words as command

-- ---- `verify ROOT R QUERY PROOF`

-- The named file is an accepted proof, and the text is the lines of the rows of its answer. For every archive with the
-- root, either these rows are right, or the proof and the archive contain two different strings with equal digests, and
-- an audit of the bytes against that archive returns two such strings.
pub record IsVerified (H : List ℕ → List ℕ) (files : Files) (words : VerifyWords) (text : List ℕ) : Type 0 where
  pub asks : AsksRanking words.r words.query
  pub query : List (List ℕ × ℕ)
  pub asked : IsQueryOf words.query query
  pub checked : IsChecked (2 ^ 26) (IsAcceptedBytes H words.root query words.r) files words.proof
  pub headline : IsTopOrCollides H words.root query words.r checked.value
  pub audited : IsTopOrTold H words.root query words.r checked.bytes checked.value
  pub printed : text ≡ lines (rows_of query checked.value)

abbrev pub verify_plan : (List ℕ → List ℕ) → VerifyWords → Plan Stop
verify_plan H words =
    asks_ranking words.r words.query (λ query.
    checks_named (proof_kind H words.root query words.r) words.proof (λ proof.
    Finishes (λ files text. IsVerified H files words text)))

-- ---- `fetch ROOT DOC FILE`

-- The named file is accepted as the text of the document under the root, and this text was printed, with a line feed. For
-- every archive with the root, either it is the archive's text of this document, or the file and the archive contain two
-- different strings with equal digests, and an audit of the bytes against that archive returns two such strings.
pub record IsFetched (H : List ℕ → List ℕ) (files : Files) (words : FetchWords) (text : List ℕ) : Type 0 where
  pub checked : IsChecked (2 ^ 21) (IsAcceptedText H words.root words.doc) files words.file
  pub headline : IsOwnOrCollides H words.root words.doc checked.value
  pub audited : IsOwnOrTold H words.root words.doc checked.bytes checked.value
  pub printed : text ≡ printed_text checked.value.text

abbrev pub fetch_plan : (List ℕ → List ℕ) → FetchWords → Plan Stop
fetch_plan H words =
    checks_named (text_kind H words.root words.doc) words.file (λ proof.
    Finishes (λ files text. IsFetched H files words text))

-- ---- `both ROOT QUERY PROOF`

-- The named file is accepted under the root as a proof of all documents with every term of the query, and the text is a line
-- for each document that it shows. For every archive with the root, either these are all its documents that have every term
-- of the query, or the proof and the archive contain two different strings with equal digests, and an audit of the bytes
-- against that archive returns two such strings.
pub record IsBothChecked (H : List ℕ → List ℕ) (files : Files) (words : BothWords) (text : List ℕ) : Type 0 where
  pub query : List (List ℕ × ℕ)
  pub asked : IsQueryOf words.query query
  pub checked : IsChecked (2 ^ 26) (AreAcceptedBytes H words.root query) files words.proof
  pub headline : AreBothOrCollide H words.root query checked.value
  pub audited : AreBothOrTold H words.root query checked.bytes checked.value
  pub printed : text ≡ lines_of_documents (documents_shown checked.value)

abbrev pub both_plan : (List ℕ → List ℕ) → BothWords → Plan Stop
both_plan H words =
    asks_query words.query (λ query.
    checks_named (both_kind H words.root query) words.proof (λ proof.
    Finishes (λ files text. IsBothChecked H files words text)))

-- ---- `growth OLDROOT NEWROOT FILE`

-- The named file is accepted as the growth from the old root to the new one, and the line of its two numbers was printed.
-- For all archives with the two roots, either they have these numbers of texts, and those of the old one are the first of
-- the new one's; or the file and the two archives contain two different strings with equal digests, and an audit of the
-- bytes against these archives returns two such strings.
pub record IsGrowthChecked (H : List ℕ → List ℕ) (files : Files) (words : GrowthWords) (text : List ℕ) : Type 0 where
  pub checked : IsChecked 4096 (IsAcceptedGrowth H words.old words.new) files words.file
  pub headline : IsGrownOrCollides H words.old words.new checked.value
  pub audited : IsGrownOrTold H words.old words.new checked.bytes checked.value
  pub printed : text ≡ line_of_grown checked.value.old.documents checked.value.new.documents

abbrev pub growth_plan : (List ℕ → List ℕ) → GrowthWords → Plan Stop
growth_plan H words =
    checks_named (growth_kind H words.old words.new) words.file (λ growth.
    Finishes (λ files text. IsGrowthChecked H files words text))

-- ---- `catalog-root ROOTS`

-- the named file is a list of roots, and the root of the catalog whose shards have these roots was published
pub record IsCatalogRooted (H : List ℕ → List ℕ) (files : Files) (words : CatalogRootWords) (text : List ℕ) : Type 0 where
  pub roots : List (List ℕ)
  pub listed : HasRoots files words.roots roots
  pub published : IsPublished (root_over H roots) text

abbrev pub catalog_root_plan : (List ℕ → List ℕ) → CatalogRootWords → Plan Stop
catalog_root_plan H words =
    reads_roots words.roots (λ roots. Finishes (λ files text. IsCatalogRooted H files words text))

-- ---- `catalog ROOT R QUERY FILE`

-- The named file is accepted under the root as the proof of a catalog's answer, and the text is the lines of its rows. For
-- every catalog with the root, either these rows are right, or the file and the catalog contain two different strings with
-- equal digests, and an audit of the bytes against that catalog returns two such strings.
pub record IsCatalogChecked (H : List ℕ → List ℕ) (files : Files) (words : CatalogWords) (text : List ℕ) : Type 0 where
  pub asks : AsksRanking words.r words.query
  pub query : List (List ℕ × ℕ)
  pub asked : IsQueryOf words.query query
  pub checked : IsChecked (2 ^ 28) (IsAcceptedCatalog H words.root query words.r) files words.file
  pub headline : IsCatalogTopOrCollides H words.root query words.r checked.value
  pub audited : IsCatalogTopOrTold H words.root query words.r checked.bytes checked.value
  pub rows : List CatalogRow
  pub answer : AreRowsOf query checked.value rows
  pub printed : text ≡ lines_of_catalog rows

abbrev pub catalog_plan : (List ℕ → List ℕ) → CatalogWords → Plan Stop
catalog_plan H words =
    asks_ranking words.r words.query (λ query.
    checks_named (catalog_kind H words.root query words.r) words.file (λ shards.
    Finishes (λ files text. IsCatalogChecked H files words text)))

-- ---- all

abbrev pub checker_plan : (List ℕ → List ℕ) → CheckerCommand → Plan Stop
checker_plan H (command.Verify words) = verify_plan H words
checker_plan H (command.Fetch words) = fetch_plan H words
checker_plan H (command.Both words) = both_plan H words
checker_plan H (command.Growth words) = growth_plan H words
checker_plan H (command.CatalogRoot words) = catalog_root_plan H words
checker_plan H (command.Catalog words) = catalog_plan H words

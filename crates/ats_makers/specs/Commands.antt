-- The plans of the commands that rank, index and make.
use Rattle.std.specs.List.{AllZip}
use Rattle.std.specs.Prelude.{ℕ, List, ◌≡◌, ◌⊎◌, map, ◌≤◌, ◌^◌, ◌++◌, ◌∷◌, [], length, ◌<◌}
use Rattle.ats_base.specs.Outside.{Puts}
use Rattle.ats_terms.specs.Query.{IsQueryOf}
use Rattle.ats_impact.specs.Rank.{IsRanking, IsTop}
use Rattle.ats_impact.specs.declared.rank.Row.{Row}
use Rattle.ats_lists.specs.declared.format.Format.TheVariants.{Two}
use Rattle.ats_commit.specs.Archive.{archive_of, Archive}
use Rattle.ats_commit.specs.Root.{root_of}
use Rattle.ats_index.specs.Spelling.{IsSpelling}
use Rattle.ats_text_check.specs.Value.{IsTextProof}
use Rattle.ats_growth_check.specs.Headline.{IsPrefix}
use Rattle.ats_growth_check.specs.Value.{IsGrowth}
use Rattle.ats_proof.specs.declared.record.Algorithm.{Algorithm}
use Rattle.ats_proof.specs.Value.{Proof}
use Rattle.ats_honest.specs.Honest.{IsProved, IsProvedBy, IsTooLongBy}
use Rattle.ats_text_proof.specs.Given.{given_text}
use Rattle.ats_all_proof.specs.Made.{IsBothProof, IsBothFault}
use Rattle.ats_all_proof.specs.declared.making.BothFault.TheVariants.{TooLong}
use Rattle.ats_growth_proof.specs.Honest.{honest, IsFirstApart}
use Rattle.ats_catalog_bytes.specs.Catalog.{roots_of}
use Rattle.ats_catalog_check.specs.Headline.{score_in, size_in}
use Rattle.ats_catalog_honest.specs.Honest.{IsProvedCatalog}
use Rattle.ats_catalog_honest.specs.Ranking.{Ranked, IsRankedBy}
use Rattle.ats_catalog_proof.specs.Proving.{IsAskedProof, HasRootOf}
use Rattle.ats_catalog_proof.specs.Written.{bytes_of}
use Rattle.ats_plan.specs.Files.{Files}
use Rattle.ats_plan.specs.Plan.{Plan, Finishes, Gets, Makes, Stores, Tries}
use Rattle.ats_console.specs.Making.{IsMade, IsNotTooLong, IsUnmade}
use Rattle.ats_console.specs.Names.{HasNames, reads_names, reads_archives}
use Rattle.ats_console.specs.Print.{lines, IsPublished, line_of_proof}
use Rattle.ats_console.specs.Read.{HasCollection, HasIndex}
use Rattle.ats_console.specs.Steps.{AsksRanking, asks_ranking, reads_collection, reads_index, asks_query}
use Rattle.ats_console.specs.Stops.{line_of_long_proof}
use Rattle.ats_console.specs.Words.{MakerCommand, RankWords, BuildWords, MigrateWords, RootWords, ProveWords, GiveWords, ProveBothWords, GrowWords, ProveCatalogWords}
use Rattle.ats_console.specs.declared.stops.Stop.{Stop}
use Rattle.ats_console.specs.declared.stops.Stop.TheVariants.{Input}
use Rattle.ats_makers.specs.Lines.{line_of_text_size, line_of_document, line_of_both, line_of_growth_size, line_of_differing, line_of_catalog_size, line_of_other_shard, line_of_long_shard}
use Rattle.ats_console.specs.Words as command

-- ---- `rank COLLECTION R QUERY`

-- the text is the lines of the ranking of the named file's collection, and its documents are a top answer
pub record IsRanked (files : Files) (words : RankWords) (text : List ℕ) : Type 0 where
  pub asks : AsksRanking words.r words.query
  pub texts : List (List ℕ)
  pub query : List (List ℕ × ℕ)
  pub rows : List Row
  pub collection : HasCollection files words.collection texts
  pub asked : IsQueryOf words.query query
  pub ranking : IsRanking texts query words.r rows
  pub top : IsTop texts query words.r (map (λ row. row.doc) rows)
  pub printed : text ≡ lines rows

abbrev pub rank_plan : RankWords → Plan Stop
rank_plan words =
    asks_ranking words.r words.query (λ query.
    reads_collection words.collection (λ texts.
    Finishes (λ files text. IsRanked files words text)))

-- ---- `build COLLECTION INDEX`

-- INDEX holds the index bytes of the archive of the named file's texts, and its root was published
pub record IsBuilt (H : List ℕ → List ℕ) (before now : Files) (words : BuildWords) (text : List ℕ) : Type 0 where
  pub texts : List (List ℕ)
  pub bytes : List ℕ
  pub collection : HasCollection before words.collection texts
  pub spelling : IsSpelling H bytes (archive_of texts)
  pub stored : Puts before now words.index bytes
  pub published : IsPublished (root_of H (archive_of texts)) text

abbrev pub build_plan : (List ℕ → List ℕ) → BuildWords → Plan Stop
build_plan H words =
    reads_collection words.collection (λ texts.
    Makes (List ℕ) (λ bytes. IsSpelling H bytes (archive_of texts)) (λ bytes.
    Stores words.index bytes (λ before now text. IsBuilt H before now words text)))

-- ---- `migrate INDEX INDEX2`

-- the archive of the same texts whose lists stand in blocks
abbrev pub in_blocks : Archive → Archive
in_blocks archive = record { texts = archive.texts; format = Two }

-- the named file is the index of an archive, INDEX2 holds the index bytes of the archive of its texts whose lists stand in
-- blocks, and the root of that archive was published
pub record IsMigrated (H : List ℕ → List ℕ) (before now : Files) (words : MigrateWords) (text : List ℕ) : Type 0 where
  pub archive : Archive
  pub bytes : List ℕ
  pub index : HasIndex H before words.index archive
  pub spelling : IsSpelling H bytes (in_blocks archive)
  pub stored : Puts before now words.migrated bytes
  pub published : IsPublished (root_of H (in_blocks archive)) text

abbrev pub migrate_plan : (List ℕ → List ℕ) → MigrateWords → Plan Stop
migrate_plan H words =
    reads_index H words.index (λ archive.
    Makes (List ℕ) (λ bytes. IsSpelling H bytes (in_blocks archive)) (λ bytes.
    Stores words.migrated bytes (λ before now text. IsMigrated H before now words text)))

-- ---- `root INDEX`

-- the named file is the index of an archive, and its root was published
pub record IsRooted (H : List ℕ → List ℕ) (files : Files) (words : RootWords) (text : List ℕ) : Type 0 where
  pub archive : Archive
  pub index : HasIndex H files words.index archive
  pub published : IsPublished (root_of H archive) text

abbrev pub root_plan : (List ℕ → List ℕ) → RootWords → Plan Stop
root_plan H words = reads_index H words.index (λ archive. Finishes (λ files text. IsRooted H files words text))

-- ---- `prove INDEX ALG R QUERY PROOF`

-- the bytes are the honest proof of the query over the archive of the named index, and at most as long as a proof may
-- be
pub record IsProofFor (H : List ℕ → List ℕ) (files : Files) (words : ProveWords) (bytes : List ℕ) : Type 0 where
  pub archive : Archive
  pub query : List (List ℕ × ℕ)
  pub index : HasIndex H files words.index archive
  pub asked : IsQueryOf words.query query
  pub proved : IsProved H archive query words.r words.algorithm bytes
  pub short : length bytes ≤ 2 ^ 26

-- PROOF holds the honest proof that the words ask for, and the text is the line of its length
pub record IsProofStored (H : List ℕ → List ℕ) (before now : Files) (words : ProveWords) (text : List ℕ) : Type 0 where
  pub asks : AsksRanking words.r words.query
  pub bytes : List ℕ
  pub proof : IsProofFor H before words bytes
  pub stored : Puts before now words.proof bytes
  pub printed : text ≡ line_of_proof (length bytes)

abbrev pub prove_plan : (List ℕ → List ℕ) → ProveWords → Plan Stop
prove_plan H words =
    asks_ranking words.r words.query (λ query.
    reads_index H words.index (λ archive.
    Tries (IsNotTooLong H archive query words.r words.algorithm) (IsUnmade H archive query words.r words.algorithm)
    (Makes (List ℕ) (IsMade H archive query words.r words.algorithm) (λ bytes.
    Stores words.proof bytes (λ before now text. IsProofStored H before now words text)))))

-- ---- `give INDEX DOC FILE`

-- the document is one of the archive's
abbrev pub HasDocument : Archive → ℕ → Type 0
HasDocument archive doc = doc < length archive.texts

-- it is none of them, and the line names it
abbrev pub LacksDocument : Archive → ℕ → Stop → Type 0
LacksDocument archive doc stop = (HasDocument archive doc → ⊥) × (stop ≡ Input (line_of_document doc))

-- The archive is that of the named index, the document is one of its own, FILE holds the bytes that give its text with
-- the archive's format and header and the digests that it needs, and the text is the line of their number.
pub record IsTextStored (H : List ℕ → List ℕ) (before now : Files) (words : GiveWords) (text : List ℕ) : Type 0 where
  pub archive : Archive
  pub bytes : List ℕ
  pub index : HasIndex H before words.index archive
  pub inside : HasDocument archive words.doc
  pub given : IsTextProof bytes (given_text H archive words.doc)
  pub stored : Puts before now words.file bytes
  pub printed : text ≡ line_of_text_size (length bytes)

abbrev pub give_plan : (List ℕ → List ℕ) → GiveWords → Plan Stop
give_plan H words =
    reads_index H words.index (λ archive.
    Tries (HasDocument archive words.doc) (LacksDocument archive words.doc)
    (Makes (List ℕ) (λ bytes. IsTextProof bytes (given_text H archive words.doc)) (λ bytes.
    Stores words.file bytes (λ before now text. IsTextStored H before now words text))))

-- ---- `prove-both INDEX QUERY PROOF`

-- the bytes are the proof of all documents with every term of the query, as a server makes it over the archive, and at most
-- as long as a proof may be
pub record AreBothBytes (H : List ℕ → List ℕ) (archive : Archive) (query : List (List ℕ × ℕ)) (bytes : List ℕ) : Type 0 where
  pub proved : IsBothProof H archive query bytes
  pub short : length bytes ≤ 2 ^ 26

-- The archive is that of the named index, PROOF holds the proof of all its documents with every term of the query, and the
-- text is the line of its length.
pub record IsBothStored (H : List ℕ → List ℕ) (before now : Files) (words : ProveBothWords) (text : List ℕ) : Type 0 where
  pub archive : Archive
  pub query : List (List ℕ × ℕ)
  pub bytes : List ℕ
  pub asked : IsQueryOf words.query query
  pub index : HasIndex H before words.index archive
  pub made : AreBothBytes H archive query bytes
  pub stored : Puts before now words.proof bytes
  pub printed : text ≡ line_of_both (length bytes)

-- no such proof has more bytes
abbrev pub IsBothShort : (List ℕ → List ℕ) → Archive → List (List ℕ × ℕ) → Type 0
IsBothShort H archive query = (bytes : ℕ) → IsBothFault H archive query (TooLong bytes) → ⊥

-- the proof has more bytes, and the line says how many
abbrev pub IsBothUnmade : (List ℕ → List ℕ) → Archive → List (List ℕ × ℕ) → Stop → Type 0
IsBothUnmade H archive query stop = (bytes : ℕ)
    × IsBothFault H archive query (TooLong bytes) × (stop ≡ Input (line_of_long_proof bytes))

abbrev pub prove_both_plan : (List ℕ → List ℕ) → ProveBothWords → Plan Stop
prove_both_plan H words =
    asks_query words.query (λ query.
    reads_index H words.index (λ archive.
    Tries (IsBothShort H archive query) (IsBothUnmade H archive query)
    (Makes (List ℕ) (AreBothBytes H archive query) (λ bytes.
    Stores words.proof bytes (λ before now text. IsBothStored H before now words text)))))

-- ---- `grow OLDINDEX NEWINDEX FILE`

-- the old texts are the first of the new ones
abbrev pub WithdrawsNothing : (older newer : Archive) → Type 0
WithdrawsNothing older newer = IsPrefix older.texts newer.texts

-- they are not, and the line names the first old document that the new archive does not have with the same text
abbrev pub Withdraws : (older newer : Archive) → Stop → Type 0
Withdraws older newer stop = (doc : ℕ) × IsFirstApart older.texts newer.texts doc × (stop ≡ Input (line_of_differing doc))

-- The archives are those of the two named indexes, the texts of the old one are the first of the new one's, FILE holds the
-- bytes that show this, and the text is the line of their number.
pub record IsGrowthStored (H : List ℕ → List ℕ) (before now : Files) (words : GrowWords) (text : List ℕ) : Type 0 where
  pub older : Archive
  pub newer : Archive
  pub bytes : List ℕ
  pub old : HasIndex H before words.old older
  pub new : HasIndex H before words.new newer
  pub prefix : WithdrawsNothing older newer
  pub shown : IsGrowth bytes (honest H older newer)
  pub stored : Puts before now words.file bytes
  pub printed : text ≡ line_of_growth_size (length bytes)

abbrev pub grow_plan : (List ℕ → List ℕ) → GrowWords → Plan Stop
grow_plan H words =
    reads_index H words.old (λ older.
    reads_index H words.new (λ newer.
    Tries (WithdrawsNothing older newer) (Withdraws older newer)
    (Makes (List ℕ) (λ bytes. IsGrowth bytes (honest H older newer)) (λ bytes.
    Stores words.file bytes (λ before now text. IsGrowthStored H before now words text)))))

-- ---- `prove-catalog LIST ALG R QUERY FILE`

-- The archives are those of the named indexes, as the shards of a catalog. Each index was read twice, and its second archive
-- has the root of the first. If the second archives are the first ones, as they are if no file changed between, the bytes are
-- the honest file of the catalog. They are at most as many as a catalog's file may have.
pub record IsCatalogFile (H : List ℕ → List ℕ) (files : Files) (names : List (List ℕ)) (query : List (List ℕ × ℕ)) (r : ℕ)
    (algorithm : Algorithm) (bytes : List ℕ) : Type 0 where
  pub catalog : List Archive
  pub indexes : AllZip (HasIndex H files) names catalog
  pub again : List Archive
  pub reread : AllZip (HasIndex H files) names again
  pub roots : roots_of H again ≡ roots_of H catalog
  pub proved : again ≡ catalog → IsProvedCatalog H catalog query r (λ _. algorithm) bytes
  pub short : length bytes ≤ 2 ^ 28

-- FILE holds such bytes over the indexes that the list names, and the text is the line of their number
pub record IsCatalogStored (H : List ℕ → List ℕ) (before now : Files) (words : ProveCatalogWords) (text : List ℕ) : Type 0 where
  pub asks : AsksRanking words.r words.query
  pub query : List (List ℕ × ℕ)
  pub asked : IsQueryOf words.query query
  pub names : List (List ℕ)
  pub listed : HasNames before words.list names
  pub bytes : List ℕ
  pub file : IsCatalogFile H before names query words.r words.algorithm bytes
  pub stored : Puts before now words.file bytes
  pub printed : text ≡ line_of_catalog_size (length bytes)

-- the archive has another root than this shard of the catalog, and the line names the shard
abbrev pub HasOtherRoot : (List ℕ → List ℕ) → (catalog : List Archive) → (shard : ℕ) → Archive → Stop → Type 0
HasOtherRoot H catalog shard archive stop = (HasRootOf H catalog shard archive → ⊥) × (stop ≡ Input (line_of_other_shard shard))

-- the bytes are such a proof, and at most as many as a proof may have
pub record IsShardMade (Asked : Proof → Type 0) (bytes : List ℕ) : Type 0 where
  pub proved : IsProvedBy Asked bytes
  pub short : length bytes ≤ 2 ^ 26

-- There is no such proof, so the archive is another than that of the ranking, and the line names the shard; or it has more
-- bytes, and the line also says how many.
abbrev pub IsShardUnmade : (Asked : Proof → Type 0) → (shard : ℕ) → Stop → Type 0
IsShardUnmade Asked shard stop = (((proof : Proof) → Asked proof → ⊥) × (stop ≡ Input (line_of_other_shard shard)))
    ⊎ ((bytes : ℕ) × IsTooLongBy Asked (2 ^ 26) bytes × (stop ≡ Input (line_of_long_shard shard bytes)))

-- the proof of what a shard is asked for, over the archive of its index, which is read again
abbrev pub proves_shard : (List ℕ → List ℕ) → (catalog : List Archive) → (asked : Archive → ℕ → Proof → Type 0) → (shard : ℕ)
    → (name : List ℕ) → (List ℕ → Plan Stop) → Plan Stop
proves_shard H catalog asked shard name rest =
    reads_index H name (λ archive.
    Tries (HasRootOf H catalog shard archive) (HasOtherRoot H catalog shard archive)
    (Gets (List ℕ) (IsShardMade (asked archive shard)) (IsShardUnmade (asked archive shard) shard) rest))

-- the proofs of all shards, after those that it has
abbrev pub proves_shards : (List ℕ → List ℕ) → (catalog : List Archive) → (asked : Archive → ℕ → Proof → Type 0)
    → (got : List (List ℕ)) → (names : List (List ℕ)) → (List (List ℕ) → Plan Stop) → Plan Stop
proves_shards H catalog asked got [] rest = rest got
proves_shards H catalog asked got (name ∷ names) rest =
    proves_shard H catalog asked (length got) name (λ proof. proves_shards H catalog asked (got ++ proof ∷ []) names rest)

-- what the shards of a catalog are asked for, if this is the ranking of all its documents
abbrev pub asked_by : (List ℕ → List ℕ) → List (List ℕ × ℕ) → Algorithm → (r : ℕ) → List Ranked → Archive → ℕ → Proof → Type 0
asked_by H query algorithm r ranking archive shard proof = IsAskedProof H archive query algorithm r ranking shard proof

-- a file is at most as long as that of a catalog may be
abbrev pub IsFileShort : (bytes : List ℕ) → Type 0
IsFileShort bytes = length bytes ≤ 2 ^ 28

-- it is longer, and the line says how many bytes it has
abbrev pub IsFileLong : (bytes : List ℕ) → Stop → Type 0
IsFileLong bytes stop = (2 ^ 28 < length bytes) × (stop ≡ Input (line_of_long_proof (length bytes)))

-- the second pass over the indexes, after the ranking of all documents, and then the file
abbrev pub proves_catalog : (List ℕ → List ℕ) → ProveCatalogWords → (names : List (List ℕ)) → List (List ℕ × ℕ) → (catalog : List Archive)
    → (ranking : List Ranked) → Plan Stop
proves_catalog H words names query catalog ranking =
    proves_shards H catalog (asked_by H query words.algorithm words.r ranking) [] names (λ proofs.
    Tries (IsFileShort (bytes_of (roots_of H catalog) proofs)) (IsFileLong (bytes_of (roots_of H catalog) proofs))
    (Stores words.file (bytes_of (roots_of H catalog) proofs) (λ before now text. IsCatalogStored H before now words text)))

-- two passes over the named indexes: so one index at a time is enough
abbrev pub proves_names : (List ℕ → List ℕ) → ProveCatalogWords → (names : List (List ℕ)) → List (List ℕ × ℕ) → Plan Stop
proves_names H words names query =
    reads_archives H [] names (λ catalog.
    Makes (List Ranked) (IsRankedBy (size_in catalog) (score_in catalog query)) (λ ranking.
    proves_catalog H words names query catalog ranking))

abbrev pub prove_catalog_plan : (List ℕ → List ℕ) → ProveCatalogWords → Plan Stop
prove_catalog_plan H words =
    asks_ranking words.r words.query (λ query.
    reads_names words.list (λ names.
    proves_names H words names query))

-- ---- all

abbrev pub maker_plan : (List ℕ → List ℕ) → MakerCommand → Plan Stop
maker_plan H (command.Rank words) = rank_plan words
maker_plan H (command.Build words) = build_plan H words
maker_plan H (command.Migrate words) = migrate_plan H words
maker_plan H (command.Root words) = root_plan H words
maker_plan H (command.Prove words) = prove_plan H words
maker_plan H (command.Give words) = give_plan H words
maker_plan H (command.ProveBoth words) = prove_both_plan H words
maker_plan H (command.Grow words) = grow_plan H words
maker_plan H (command.ProveCatalog words) = prove_catalog_plan H words

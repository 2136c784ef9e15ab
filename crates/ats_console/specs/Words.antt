-- What the words of a command say.
use Rattle.std.specs.Prelude.{◌&&◌, ◌||◌, ◌==◌, ℕ, Bool, not, List, [], ◌∷◌, length, slice_index, nat_lt, nat_le, codes, Option, Some, None, option_map, option_and_then, if◌then◌else◌}
use Rattle.std.specs.Str.{bytes_eq}
use Rattle.std.specs.List.{list_all, list_any}
use Rattle.std.specs.Char.{is_ascii_digit, is_ascii_uppercase}
use Rattle.std.specs.Result.{result_ok}
use Rattle.std.specs.Str.Parse.{digits_value}
use Rattle.hex.specs.Hex.{decode_sized}
use Rattle.ats_proof.specs.declared.record.Algorithm.{Algorithm}
use Rattle.ats_proof.specs.declared.record.Algorithm.TheVariants.{Tra, Tnra}
use Rattle.ats_console.specs.declared.words.MakerCommand.{MakerCommand as MakerValue}
use Rattle.ats_console.specs.declared.words.MakerCommand.TheVariants as maker
use Rattle.ats_console.specs.declared.words.CheckerCommand.{CheckerCommand as CheckerValue}
use Rattle.ats_console.specs.declared.words.CheckerCommand.TheVariants as checker
use Rattle.ats_console.specs.declared.words.AuditorCommand.{AuditorCommand as AuditorValue}
use Rattle.ats_console.specs.declared.words.AuditorCommand.TheVariants as auditor
use Rattle.ats_console.specs.declared.words.Command.{Command as CommandValue}
use Rattle.ats_console.specs.declared.words.Command.TheVariants as command

-- 1 to 9 decimal digits, and no leading zero except in `0`
abbrev pub is_number_word : List ℕ → Bool
is_number_word word = nat_lt 0 (length word) && nat_le (length word) 9
    && (not (slice_index word 0 == 48) || (length word == 1)) && list_all is_ascii_digit word

abbrev pub number_of : List ℕ → Option ℕ
number_of word = if is_number_word word then Some (digits_value 10 word) else None

-- the algorithm of this name
abbrev pub algorithm_of : List ℕ → Option Algorithm
algorithm_of word =
    if bytes_eq word (codes "tra") then Some Tra
    else if bytes_eq word (codes "tnra") then Some Tnra
    else None

-- a number of connections: 1 to 65,535
abbrev pub connections_of : List ℕ → Option ℕ
connections_of word = option_and_then (λ n. if nat_lt 0 n && nat_le n 65535 then Some n else None) (number_of word)

-- the 32 bytes that 64 lower-case hexadecimal digits spell
abbrev pub root_word : List ℕ → Option (List ℕ)
root_word word = if list_any is_ascii_uppercase word then None else result_ok (decode_sized word 32)

-- the words of `rank COLLECTION R QUERY`
pub record RankWords : Type 0 where
  pub collection : List ℕ
  pub r : ℕ
  pub query : List ℕ

-- the words of `build COLLECTION INDEX`
pub record BuildWords : Type 0 where
  pub collection : List ℕ
  pub index : List ℕ

-- the words of `root INDEX`
pub record RootWords : Type 0 where
  pub index : List ℕ

-- the words of `prove INDEX ALG R QUERY PROOF`
pub record ProveWords : Type 0 where
  pub index : List ℕ
  pub algorithm : Algorithm
  pub r : ℕ
  pub query : List ℕ
  pub proof : List ℕ

-- the words of `verify ROOT R QUERY PROOF`
pub record VerifyWords : Type 0 where
  pub root : List ℕ
  pub r : ℕ
  pub query : List ℕ
  pub proof : List ℕ

-- the words of `ask ROOT ALG R QUERY ADDRESS`
pub record AskWords : Type 0 where
  pub root : List ℕ
  pub algorithm : Algorithm
  pub r : ℕ
  pub query : List ℕ
  pub address : List ℕ

-- the words of `serve INDEX CONNECTIONS ADDRESS`
pub record ServeWords : Type 0 where
  pub index : List ℕ
  pub connections : ℕ
  pub address : List ℕ

-- the words of `audit INDEX R QUERY PROOF`
pub record AuditWords : Type 0 where
  pub index : List ℕ
  pub r : ℕ
  pub query : List ℕ
  pub proof : List ℕ

-- the words of `sweep INDEX LIST`
pub record SweepWords : Type 0 where
  pub index : List ℕ
  pub list : List ℕ

-- the words of `trial NUMBER`
pub record TrialWords : Type 0 where
  pub number : ℕ

-- the words of `migrate INDEX INDEX2`
pub record MigrateWords : Type 0 where
  pub index : List ℕ
  pub migrated : List ℕ

-- the words of `give INDEX DOC FILE`
pub record GiveWords : Type 0 where
  pub index : List ℕ
  pub doc : ℕ
  pub file : List ℕ

-- the words of `fetch ROOT DOC FILE`
pub record FetchWords : Type 0 where
  pub root : List ℕ
  pub doc : ℕ
  pub file : List ℕ

-- the words of `audit-fetch INDEX DOC FILE`
pub record AuditFetchWords : Type 0 where
  pub index : List ℕ
  pub doc : ℕ
  pub file : List ℕ

-- the words of `prove-both INDEX QUERY PROOF`
pub record ProveBothWords : Type 0 where
  pub index : List ℕ
  pub query : List ℕ
  pub proof : List ℕ

-- the words of `both ROOT QUERY PROOF`
pub record BothWords : Type 0 where
  pub root : List ℕ
  pub query : List ℕ
  pub proof : List ℕ

-- the words of `audit-both INDEX QUERY PROOF`
pub record AuditBothWords : Type 0 where
  pub index : List ℕ
  pub query : List ℕ
  pub proof : List ℕ

-- the words of `grow OLDINDEX NEWINDEX FILE`
pub record GrowWords : Type 0 where
  pub old : List ℕ
  pub new : List ℕ
  pub file : List ℕ

-- the words of `growth OLDROOT NEWROOT FILE`
pub record GrowthWords : Type 0 where
  pub old : List ℕ
  pub new : List ℕ
  pub file : List ℕ

-- the words of `catalog-root ROOTS`
pub record CatalogRootWords : Type 0 where
  pub roots : List ℕ

-- the words of `catalog ROOT R QUERY FILE`
pub record CatalogWords : Type 0 where
  pub root : List ℕ
  pub r : ℕ
  pub query : List ℕ
  pub file : List ℕ

-- the words of `prove-catalog LIST ALG R QUERY FILE`
pub record ProveCatalogWords : Type 0 where
  pub list : List ℕ
  pub algorithm : Algorithm
  pub r : ℕ
  pub query : List ℕ
  pub file : List ℕ

-- the words of `audit-growth OLDINDEX NEWINDEX FILE`
pub record AuditGrowthWords : Type 0 where
  pub old : List ℕ
  pub new : List ℕ
  pub file : List ℕ

-- the words of `audit-catalog LIST R QUERY FILE`
pub record AuditCatalogWords : Type 0 where
  pub list : List ℕ
  pub r : ℕ
  pub query : List ℕ
  pub file : List ℕ

-- a command of who has the texts
pub data MakerCommand : Type 0 where
  Rank : RankWords → MakerCommand
  Build : BuildWords → MakerCommand
  Migrate : MigrateWords → MakerCommand
  Root : RootWords → MakerCommand
  Prove : ProveWords → MakerCommand
  Give : GiveWords → MakerCommand
  ProveBoth : ProveBothWords → MakerCommand
  Grow : GrowWords → MakerCommand
  ProveCatalog : ProveCatalogWords → MakerCommand

-- a command of a reader, who holds only roots
pub data CheckerCommand : Type 0 where
  Verify : VerifyWords → CheckerCommand
  Fetch : FetchWords → CheckerCommand
  Both : BothWords → CheckerCommand
  Growth : GrowthWords → CheckerCommand
  CatalogRoot : CatalogRootWords → CheckerCommand
  Catalog : CatalogWords → CheckerCommand

-- a command of who has the archive, and wants to know whether what was accepted is right
pub data AuditorCommand : Type 0 where
  Audit : AuditWords → AuditorCommand
  AuditFetch : AuditFetchWords → AuditorCommand
  AuditBoth : AuditBothWords → AuditorCommand
  AuditGrowth : AuditGrowthWords → AuditorCommand
  AuditCatalog : AuditCatalogWords → AuditorCommand
  Sweep : SweepWords → AuditorCommand
  Trial : TrialWords → AuditorCommand

-- what words may ask for
pub data Command : Type 0 where
  Maker : MakerCommand → Command
  Checker : CheckerCommand → Command
  Auditor : AuditorCommand → Command
  Ask : AskWords → Command
  Serve : ServeWords → Command

-- ---- the command that a value of the program's own type means

abbrev pub maker_meaning : MakerValue → MakerCommand
maker_meaning (maker.Rank collection r query) = Rank (record { collection = collection.now; r = r; query = query.now })
maker_meaning (maker.Build collection index) = Build (record { collection = collection.now; index = index.now })
maker_meaning (maker.Migrate index migrated) = Migrate (record { index = index.now; migrated = migrated.now })
maker_meaning (maker.Root index) = Root (record { index = index.now })
maker_meaning (maker.Prove index algorithm r query proof) =
    Prove (record { index = index.now; algorithm = algorithm; r = r; query = query.now; proof = proof.now })
maker_meaning (maker.Give index doc file) = Give (record { index = index.now; doc = doc; file = file.now })
maker_meaning (maker.ProveBoth index query proof) =
    ProveBoth (record { index = index.now; query = query.now; proof = proof.now })
maker_meaning (maker.Grow old new file) = Grow (record { old = old.now; new = new.now; file = file.now })
maker_meaning (maker.ProveCatalog list algorithm r query file) =
    ProveCatalog (record { list = list.now; algorithm = algorithm; r = r; query = query.now; file = file.now })

abbrev pub checker_meaning : CheckerValue → CheckerCommand
checker_meaning (checker.Verify root r query proof) =
    Verify (record { root = root; r = r; query = query.now; proof = proof.now })
checker_meaning (checker.Fetch root doc file) = Fetch (record { root = root; doc = doc; file = file.now })
checker_meaning (checker.Both root query proof) = Both (record { root = root; query = query.now; proof = proof.now })
checker_meaning (checker.Growth old new file) = Growth (record { old = old; new = new; file = file.now })
checker_meaning (checker.CatalogRoot roots) = CatalogRoot (record { roots = roots.now })
checker_meaning (checker.Catalog root r query file) =
    Catalog (record { root = root; r = r; query = query.now; file = file.now })

abbrev pub auditor_meaning : AuditorValue → AuditorCommand
auditor_meaning (auditor.Audit index r query proof) =
    Audit (record { index = index.now; r = r; query = query.now; proof = proof.now })
auditor_meaning (auditor.AuditFetch index doc file) =
    AuditFetch (record { index = index.now; doc = doc; file = file.now })
auditor_meaning (auditor.AuditBoth index query proof) =
    AuditBoth (record { index = index.now; query = query.now; proof = proof.now })
auditor_meaning (auditor.AuditGrowth old new file) =
    AuditGrowth (record { old = old.now; new = new.now; file = file.now })
auditor_meaning (auditor.AuditCatalog list r query file) =
    AuditCatalog (record { list = list.now; r = r; query = query.now; file = file.now })
auditor_meaning (auditor.Sweep index list) = Sweep (record { index = index.now; list = list.now })
auditor_meaning (auditor.Trial number) = Trial (record { number = number })

abbrev pub meaning : CommandValue → Command
meaning (command.Maker command) = Maker (maker_meaning command)
meaning (command.Checker command) = Checker (checker_meaning command)
meaning (command.Auditor command) = Auditor (auditor_meaning command)
meaning (command.Ask root algorithm r query address) =
    Ask (record { root = root; algorithm = algorithm; r = r; query = query.now; address = address.now })
meaning (command.Serve index connections address) =
    Serve (record { index = index.now; connections = connections; address = address.now })

-- ---- the commands, by the number of their arguments

-- the command of this word and one argument, if there is one
abbrev pub command_of_one : (word first : List ℕ) → Option Command
command_of_one word first =
    if bytes_eq word (codes "root") then Some (Maker (Root (record { index = first })))
    else if bytes_eq word (codes "trial") then option_map (λ n. Auditor (Trial (record { number = n }))) (number_of first)
    else if bytes_eq word (codes "catalog-root") then Some (Checker (CatalogRoot (record { roots = first })))
    else None

abbrev pub command_of_two : (word first second : List ℕ) → Option Command
command_of_two word first second =
    if bytes_eq word (codes "build") then Some (Maker (Build (record { collection = first; index = second })))
    else if bytes_eq word (codes "sweep") then Some (Auditor (Sweep (record { index = first; list = second })))
    else if bytes_eq word (codes "migrate") then Some (Maker (Migrate (record { index = first; migrated = second })))
    else None

abbrev pub command_of_three : (word first second third : List ℕ) → Option Command
command_of_three word first second third =
    if bytes_eq word (codes "rank")
    then option_map (λ n. Maker (Rank (record { collection = first; r = n; query = third }))) (number_of second)
    else if bytes_eq word (codes "serve")
    then option_map (λ n. Serve (record { index = first; connections = n; address = third })) (connections_of second)
    else if bytes_eq word (codes "give")
    then option_map (λ n. Maker (Give (record { index = first; doc = n; file = third }))) (number_of second)
    else if bytes_eq word (codes "fetch")
    then option_and_then (λ digest. option_map (λ n. Checker (Fetch (record { root = digest; doc = n; file = third })))
    (number_of second)) (root_word first)
    else if bytes_eq word (codes "audit-fetch")
    then option_map (λ n. Auditor (AuditFetch (record { index = first; doc = n; file = third }))) (number_of second)
    else if bytes_eq word (codes "prove-both")
    then Some (Maker (ProveBoth (record { index = first; query = second; proof = third })))
    else if bytes_eq word (codes "both")
    then option_map (λ digest. Checker (Both (record { root = digest; query = second; proof = third }))) (root_word first)
    else if bytes_eq word (codes "audit-both")
    then Some (Auditor (AuditBoth (record { index = first; query = second; proof = third })))
    else if bytes_eq word (codes "grow") then Some (Maker (Grow (record { old = first; new = second; file = third })))
    else if bytes_eq word (codes "growth")
    then option_and_then (λ before. option_map (λ now. Checker (Growth (record { old = before; new = now; file = third })))
    (root_word second)) (root_word first)
    else if bytes_eq word (codes "audit-growth")
    then Some (Auditor (AuditGrowth (record { old = first; new = second; file = third })))
    else None

abbrev pub command_of_four : (word first second third fourth : List ℕ) → Option Command
command_of_four word first second third fourth =
    if bytes_eq word (codes "verify")
    then option_and_then (λ digest. option_map (λ n. Checker (Verify (record { root = digest; r = n; query = third; proof = fourth })))
    (number_of second)) (root_word first)
    else if bytes_eq word (codes "audit")
    then option_map (λ n. Auditor (Audit (record { index = first; r = n; query = third; proof = fourth }))) (number_of second)
    else if bytes_eq word (codes "catalog")
    then option_and_then (λ digest. option_map (λ n. Checker (Catalog (record { root = digest; r = n; query = third; file = fourth })))
    (number_of second)) (root_word first)
    else if bytes_eq word (codes "audit-catalog")
    then option_map (λ n. Auditor (AuditCatalog (record { list = first; r = n; query = third; file = fourth }))) (number_of second)
    else None

abbrev pub command_of_five : (word first second third fourth fifth : List ℕ) → Option Command
command_of_five word first second third fourth fifth =
    if bytes_eq word (codes "prove")
    then option_and_then (λ a. option_map
    (λ n. Maker (Prove (record { index = first; algorithm = a; r = n; query = fourth; proof = fifth })))
    (number_of third)) (algorithm_of second)
    else if bytes_eq word (codes "prove-catalog")
    then option_and_then (λ a. option_map
    (λ n. Maker (ProveCatalog (record { list = first; algorithm = a; r = n; query = fourth; file = fifth })))
    (number_of third)) (algorithm_of second)
    else if bytes_eq word (codes "ask")
    then option_and_then (λ digest. option_and_then (λ a. option_map
    (λ n. Ask (record { root = digest; algorithm = a; r = n; query = fourth; address = fifth }))
    (number_of third)) (algorithm_of second)) (root_word first)
    else None

-- the command of these words, if they have the shape of one
abbrev pub command_of : List (List ℕ) → Option Command
command_of (word ∷ (first ∷ [])) = command_of_one word first
command_of (word ∷ (first ∷ (second ∷ []))) = command_of_two word first second
command_of (word ∷ (first ∷ (second ∷ (third ∷ [])))) = command_of_three word first second third
command_of (word ∷ (first ∷ (second ∷ (third ∷ (fourth ∷ []))))) = command_of_four word first second third fourth
command_of (word ∷ (first ∷ (second ∷ (third ∷ (fourth ∷ (fifth ∷ [])))))) =
    command_of_five word first second third fourth fifth
command_of _ = None

-- what is printed for words of no command: the first word of each command of one archive
abbrev pub usage_line : List ℕ
usage_line = codes "usage: rank build root prove verify ask serve audit sweep trial migrate give fetch audit-fetch prove-both both audit-both grow growth audit-growth\n"

-- the words of a proof's check
abbrev pub verify_words : List ℕ → List ℕ → List ℕ → List ℕ → List (List ℕ)
verify_words root r query name = codes "verify" ∷ root ∷ r ∷ query ∷ name ∷ []

-- the words of an index's root
abbrev pub root_words : List ℕ → List (List ℕ)
root_words name = codes "root" ∷ name ∷ []

-- the words of an honest proof
abbrev pub prove_words : List ℕ → List ℕ → List ℕ → List ℕ → List ℕ → List (List ℕ)
prove_words index algorithm r query name = codes "prove" ∷ index ∷ algorithm ∷ r ∷ query ∷ name ∷ []

-- the words of an index's migration
abbrev pub migrate_words : List ℕ → List ℕ → List (List ℕ)
migrate_words name migrated = codes "migrate" ∷ name ∷ migrated ∷ []

-- the words that check the text of a document
abbrev pub fetch_words : List ℕ → List ℕ → List ℕ → List (List ℕ)
fetch_words root doc file = codes "fetch" ∷ root ∷ doc ∷ file ∷ []

-- the words that check a proof of all documents with every term
abbrev pub both_words : List ℕ → List ℕ → List ℕ → List (List ℕ)
both_words root query name = codes "both" ∷ root ∷ query ∷ name ∷ []

-- the words that check the growth from one root to another
abbrev pub growth_words : List ℕ → List ℕ → List ℕ → List (List ℕ)
growth_words old new file = codes "growth" ∷ old ∷ new ∷ file ∷ []

-- the words that check the proof of a catalog's answer
abbrev pub catalog_words : List ℕ → List ℕ → List ℕ → List ℕ → List (List ℕ)
catalog_words root r query file = codes "catalog" ∷ root ∷ r ∷ query ∷ file ∷ []

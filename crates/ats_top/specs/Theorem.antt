-- What holds if an accepted answer is wrong: each audit of the accepted bytes prints a collision.
use Rattle.std.specs.Prelude.{◌≡◌, ◌≢◌, ◌⊎◌, ◌^◌, ℕ, List, [], ◌∷◌, codes, Some}
use Rattle.std.specs.List.{AllZip}
use Rattle.ats_base.specs.Outside.{Rose}
use Rattle.ats_tree.specs.Differences.{Difference}
use Rattle.ats_commit.specs.Archive.{Archive}
use Rattle.ats_plan.specs.Files.{Files, IsTold, IsFile}
use Rattle.ats_console.specs.Words.{number_of}
use Rattle.ats_console.specs.Names.{HasNames}
use Rattle.ats_console.specs.Read.{HasIndex}
use Rattle.ats_top.specs.Outside.{Outside}
use Rattle.ats_top.specs.Run.{Ran}
use Rattle.ats_top.specs.Serving.{Took}

-- the words are `audit INDEX R QUERY PROOF` with this number of rows and this query, INDEX is the index of the archive, and
-- PROOF has these bytes
pub record AuditsProof (H : List ℕ → List ℕ) (archive : Archive) (r : ℕ) (query bytes : List ℕ) (said : List (List ℕ))
    (files : Files) : Type 0 where
  pub index : List ℕ
  pub rows : List ℕ
  pub proof : List ℕ
  pub says : said ≡ codes "audit" ∷ index ∷ rows ∷ query ∷ proof ∷ []
  pub number : number_of rows ≡ Some r
  pub has : HasIndex H files index archive
  pub file : IsFile files proof (2 ^ 26) bytes

-- the same of `audit-fetch INDEX DOC FILE` and this document
pub record AuditsText (H : List ℕ → List ℕ) (archive : Archive) (doc : ℕ) (bytes : List ℕ) (said : List (List ℕ))
    (files : Files) : Type 0 where
  pub index : List ℕ
  pub word : List ℕ
  pub text : List ℕ
  pub says : said ≡ codes "audit-fetch" ∷ index ∷ word ∷ text ∷ []
  pub number : number_of word ≡ Some doc
  pub has : HasIndex H files index archive
  pub file : IsFile files text (2 ^ 21) bytes

-- of `audit-both INDEX QUERY PROOF` and this query
pub record AuditsBoth (H : List ℕ → List ℕ) (archive : Archive) (query bytes : List ℕ) (said : List (List ℕ))
    (files : Files) : Type 0 where
  pub index : List ℕ
  pub proof : List ℕ
  pub says : said ≡ codes "audit-both" ∷ index ∷ query ∷ proof ∷ []
  pub has : HasIndex H files index archive
  pub file : IsFile files proof (2 ^ 26) bytes

-- of `audit-growth OLDINDEX NEWINDEX FILE`, with the indexes of these two archives
pub record AuditsGrowth (H : List ℕ → List ℕ) (older newer : Archive) (bytes : List ℕ) (said : List (List ℕ))
    (files : Files) : Type 0 where
  pub old : List ℕ
  pub new : List ℕ
  pub growth : List ℕ
  pub says : said ≡ codes "audit-growth" ∷ old ∷ new ∷ growth ∷ []
  pub has : HasIndex H files old older
  pub also : HasIndex H files new newer
  pub file : IsFile files growth 4096 bytes

-- and of `audit-catalog LIST R QUERY FILE`, with a list of the indexes of these archives, this number of rows and this query
pub record AuditsCatalog (H : List ℕ → List ℕ) (catalog : List Archive) (r : ℕ) (query bytes : List ℕ) (said : List (List ℕ))
    (files : Files) : Type 0 where
  pub list : List ℕ
  pub rows : List ℕ
  pub shown : List ℕ
  pub says : said ≡ codes "audit-catalog" ∷ list ∷ rows ∷ query ∷ shown ∷ []
  pub number : number_of rows ≡ Some r
  pub names : List (List ℕ)
  pub listed : HasNames files list names
  pub have : AllZip (HasIndex H files) names catalog
  pub file : IsFile files shown (2 ^ 28) bytes

-- memory ran out; or the shelf or the sink failed, and the status is that of its fault
abbrev pub FailsForCause : (before now : Outside) → (status : ℕ) → Type 0
FailsForCause before now status = (status ≡ 6)
    ⊎ (((status ≡ 3) × Rose before.shelf.faults now.shelf.faults)
    ⊎ ((status ≡ 7) × Rose before.sink.faults now.sink.faults))

-- A wrong answer is caught: these are two different strings with equal digests, and each run of such an audit, over a shelf
-- that reports its files, ends with status 5 and prints exactly their lines, unless it is hindered.
pub record IsCaught {P : Type 0} (H : List ℕ → List ℕ) (lines_of : Difference P → List ℕ)
    (audits : List (List ℕ) → Files → Type 0) : Type 0 where
  pub collision : Difference P
  pub differ : collision.ours ≢ collision.theirs
  pub equal : H collision.ours ≡ H collision.theirs
  pub printed : (said : List (List ℕ)) (before now : Outside) (status : ℕ) → IsTold before.shelf.files
      → audits said before.shelf.files → Ran H said before now status
      → ((status ≡ 5) × Took before.sink now.sink (lines_of collision)) ⊎ FailsForCause before now status

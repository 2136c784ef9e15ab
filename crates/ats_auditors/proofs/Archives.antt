-- An audit that takes the indexes of a catalog one after another.
use Rattle.std.proofs.Common.{◌≡◌, ◌∙◌, ◌++◌, ◌∷◌, ◌<◌, ◌≤◌, ◌+◌, ℕ, List, [], length, get_or, ap, arith}
use Rattle.std.proofs.lemmas.List.{length-append, length-map}
use Rattle.std.proofs.lemmas.Slice.Zip.{AllZip-long}
use Rattle.ats_base.specs.Outside.{ShelfTold}
use Rattle.ats_commit.specs.Archive.{Archive}
use Rattle.ats_commit.specs.Root.{root_of}
use Rattle.ats_catalog_bytes.specs.Catalog.{roots_of}
use Rattle.ats_catalog_audit.specs.AuditState.{AuditState}
use Rattle.ats_catalog_audit.specs.UnderWay.{HasTaken}
use Rattle.ats_catalog_audit.proofs.Public.{taken_none, taken_more}
use Rattle.ats_plan.specs.Runs.{IsDone}
use Rattle.ats_console.specs.Names.{reads_archives}
use Rattle.ats_console.specs.Read.{HasIndex}
use Rattle.ats_console.specs.Steps.{reads_index, comes_to}
use Rattle.ats_console.proofs.Public.{AreSoFar, none_so_far, so_far_more, all_read_so, has_archives}

module _ (H : List ℕ → List ℕ) where
  -- if the archives of all names were taken, there is a root for each
  pub some_roots : {before now : ShelfTold} (names : List (List ℕ)) (archives : List Archive) (old new : AuditState) → HasTaken H archives old new
      → IsDone (reads_archives H [] names (comes_to archives)) before now [] → 1 ≤ length names → 1 ≤ length new.roots
  some_roots {now = now} names archives old new took done some =
      omega (
        arith,
        ap length took.roots,
        length-append old.roots (roots_of H archives),
        length-map archives (root_of H),
        AllZip-long (HasIndex H now.files) names archives (has_archives H names archives done),
        some,
      )

  -- the indexes of the first names were taken
  pub record AreTaken (before now : ShelfTold) (old new : AuditState) (names : List (List ℕ)) (i : ℕ) : Type 0 where
    pub archives : List Archive
    pub taken : HasTaken H archives old new
    pub so_far : AreSoFar H before now names i archives

  -- as many roots are kept
  pub so_many : (before now : ShelfTold) (old new : AuditState) (names : List (List ℕ)) (i : ℕ) → AreTaken before now old new names i
      → length new.roots ≡ length old.roots + i
  so_many before now old new names i are =
      ap length are.taken.roots ∙ length-append old.roots (roots_of H are.archives)
      ∙ ap (λ (n : ℕ). length old.roots + n) (length-map are.archives (root_of H) ∙ are.so_far.counted)

  pub none_taken : (before : ShelfTold) (audit : AuditState) (names : List (List ℕ)) → AreTaken before before audit audit names 0
  none_taken before audit names = record { archives = []; taken = taken_none H audit; so_far = none_so_far H before names }

  pub more_taken : (before mid : ShelfTold) (old now : AuditState) (names : List (List ℕ)) (i : ℕ) (name : List ℕ) → i < length names → name ≡ get_or names i name
      → AreTaken before mid old now names i → (next : ShelfTold) (new : AuditState) (archive : Archive) → HasTaken H (archive ∷ []) now new
      → IsDone (reads_index H name (comes_to archive)) mid next [] → AreTaken before next old new names (i + 1)
  more_taken before mid old now names i name less is are next new archive took reads = record {
    archives = are.archives ++ archive ∷ [];
    taken = taken_more H are.archives (archive ∷ []) old now new are.taken took;
    so_far = so_far_more H before mid names i name less is are.archives are.so_far next archive reads;
  }

  -- all were taken
  pub all_taken : (before now : ShelfTold) (old new : AuditState) (names : List (List ℕ)) (i : ℕ) → length names ≤ i → AreTaken before now old new names i
      → (archives : List Archive) × HasTaken H archives old new × IsDone (reads_archives H [] names (comes_to archives)) before now []
  all_taken before now old new names i past are =
      (are.archives, are.taken, all_read_so H before now names i past are.archives are.so_far)

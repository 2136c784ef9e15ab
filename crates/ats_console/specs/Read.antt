-- The files that commands read, as a shelf reports them.
use Rattle.std.specs.Prelude.{◌^◌, ℕ, List}
use Rattle.ats_commit.specs.Archive.{Archive}
use Rattle.ats_index.specs.Spelling.{IsSpelling}
use Rattle.ats_plan.specs.Files.{Files, IsFile}
use Rattle.ats_console.specs.Input.{IsCollectionOf}

-- the named file is the collection of these texts
pub record HasCollection (files : Files) (name : List ℕ) (texts : List (List ℕ)) : Type 0 where
  pub bytes : List ℕ
  pub file : IsFile files name (2 ^ 26) bytes
  pub collection : IsCollectionOf bytes texts

-- the named file is the index, under H, of this archive
pub record HasIndex (H : List ℕ → List ℕ) (files : Files) (name : List ℕ) (archive : Archive) : Type 0 where
  pub bytes : List ℕ
  pub file : IsFile files name (2 ^ 29) bytes
  pub spelling : IsSpelling H bytes archive

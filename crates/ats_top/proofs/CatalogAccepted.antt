-- The indexes of a catalog: they have one list of archives, and a command that reads them comes to what is left.
use Rattle.std.proofs.Common.{◌≡◌, ◌++◌, ◌∷◌, ℕ, List, [], append-nil, append_assoc, inr, sym, subst}
use Rattle.std.specs.List.{AllZip}
use Rattle.ats_commit.specs.Archive.{Archive}
use Rattle.ats_index.specs.Spelling.{IsSpelling}
use Rattle.ats_index.proofs.Public.{one_archive}
use Rattle.ats_plan.specs.Files.{Files, IsTold}
use Rattle.ats_plan.specs.Plan.{Plan, Passes}
use Rattle.ats_plan.proofs.Public.{one_file}
use Rattle.ats_console.specs.Names.{reads_archives}
use Rattle.ats_console.specs.Read.{HasIndex}
use Rattle.ats_console.specs.declared.stops.Stop.{Stop}
use Rattle.ats_console.proofs.Public.{same_zip}

module _ (H : List ℕ → List ℕ) (files : Files) where
  -- a reported file is the index of one archive
  one_index : IsTold files → (name : List ℕ) (a b : Archive) → HasIndex H files name a → HasIndex H files name b → a ≡ b
  one_index told name a b is also =
      let same : is.bytes ≡ also.bytes = one_file files name is.bytes also.bytes _ _ told is.file also.file in
      one_archive H also.bytes a b (subst (λ (bytes : List ℕ). IsSpelling H bytes a) same is.spelling) also.spelling

  pub one_catalog : IsTold files → (names : List (List ℕ)) (a b : List Archive) → AllZip (HasIndex H files) names a → AllZip (HasIndex H files) names b → a ≡ b
  one_catalog told names a b is also = same_zip (HasIndex H files) (one_index told) names a b is also

  pub passes_archives : (rest : List Archive → Plan Stop) (got : List Archive) (names : List (List ℕ)) (archives : List Archive)
      → AllZip (HasIndex H files) names archives → Passes files (rest (got ++ archives)) → Passes files (reads_archives H got names rest)
  passes_archives rest got [] [] have passes = subst (λ (all : List Archive). Passes files (rest all)) (append-nil got) passes
  passes_archives rest got [] (a ∷ archives) have passes = absurd have
  passes_archives rest got (name ∷ names) [] have passes = absurd have
  passes_archives rest got (name ∷ names) (archive ∷ archives) have passes =
      inr (
        have.0.bytes,
        have.0.file,
        (
          archive,
          have.0.spelling,
          passes_archives rest (got ++ archive ∷ []) names archives have.1
              (subst (λ (all : List Archive). Passes files (rest all)) (sym (append_assoc got (archive ∷ []) archives)) passes),
        ),
      )

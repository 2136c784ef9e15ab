-- The proofs of a list, as a sweep gathers them in the order of its lines.
use Rattle.std.specs.Prelude.{◌≤◌, ◌^◌, ℕ, List, [], length, sum_by}
use Rattle.std.specs.List.{AllZip}
use Rattle.ats_base.specs.Outside.{IsLonger}
use Rattle.ats_plan.specs.Files.{Files, IsFile}
use Rattle.ats_auditors.specs.declared.gathering.Gathered.{Gathered}
use Rattle.ats_auditors.specs.declared.gathering.Gathered.TheVariants.{Whole, Long}

-- the named file has these bytes, or more than a proof may have
abbrev pub IsGathered : Files → List ℕ → Gathered → Type 0
IsGathered files name (Whole bytes) = IsFile files name (2 ^ 26) bytes
IsGathered files name Long = IsLonger files name (2 ^ 26)

-- the bytes that count; those of a file that is too long do not
abbrev pub content : Gathered → List ℕ
content (Whole bytes) = bytes
content Long = []

abbrev pub size : Gathered → ℕ
size proof = length (content proof)

abbrev pub total : List Gathered → ℕ
total proofs = sum_by size proofs

-- the named files are these proofs, and together have at most the bytes that a sweep may gather
pub record AreGathered (files : Files) (names : List (List ℕ)) (proofs : List Gathered) : Type 0 where
  pub each : AllZip (IsGathered files) names proofs
  pub within : total proofs ≤ 2 ^ 28

-- all files are there, within the limit
abbrev pub AreAllThere : Files → List (List ℕ) → Type 0
AreAllThere files names = (proofs : List Gathered) × AreGathered files names proofs

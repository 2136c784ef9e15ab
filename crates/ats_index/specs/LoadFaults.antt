-- Why bytes are not loaded, and the place of the fault.
use Rattle.std.specs.Prelude.{◌≡◌, ◌≢◌, ◌⊎◌, ℕ, List, ◌++◌, nat_eq}
use Rattle.std.specs.List.{All, common_prefix_len}
use Rattle.std.specs.Str.{IsUtf8}
use Rattle.ats_impact.specs.Limits.{AreWithin}
use Rattle.ats_lists.specs.declared.format.Format.{Format}
use Rattle.ats_index.specs.Parts.{archive_in}
use Rattle.ats_index.specs.Spelling.{texts_bytes, index_bytes}
use Rattle.ats_index.specs.FirstPart.{IsFirstBad}
use Rattle.ats_index.specs.declared.load.LoadFault.{LoadFault}
use Rattle.ats_index.specs.declared.load.LoadFault.TheVariants.{BadIndex, OutOfMemory}

-- the lists differ, and their longest common prefix has this length
pub record IsDifference (xs ys : List ℕ) (at : ℕ) : Type 0 where
  pub other : xs ≢ ys
  pub prefix : at ≡ common_prefix_len nat_eq xs ys

-- the bytes begin with the version of this format and these texts, which are within the limits
pub record BeginWith (bytes : List ℕ) (format : Format) (texts : List (List ℕ)) : Type 0 where
  pub utf8 : All IsUtf8 texts
  pub within : AreWithin texts
  pub rest : List ℕ
  pub same : bytes ≡ texts_bytes format texts ++ rest

-- the bytes begin with a version and texts, and differ at this place from the index of these texts in its format
pub record IsOtherIndex (H : List ℕ → List ℕ) (bytes : List ℕ) (at : ℕ) : Type 0 where
  pub format : Format
  pub texts : List (List ℕ)
  pub begins : BeginWith bytes format texts
  pub differs : IsDifference bytes (index_bytes H (archive_in format texts)) at

-- the first bad field up to the last text, or, if all of these are good, the first difference from the index of the
-- texts in the format that the version gives; out of memory needs no cause in the bytes
abbrev pub IsLoadFault : (List ℕ → List ℕ) → List ℕ → LoadFault → Type 0
IsLoadFault H bytes (BadIndex at) = IsFirstBad bytes at ⊎ IsOtherIndex H bytes at
IsLoadFault H bytes OutOfMemory = Unit {0}

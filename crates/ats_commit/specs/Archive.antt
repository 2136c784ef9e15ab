-- What a root commits to.
use Rattle.std.specs.Prelude.{ℕ, List}
use Rattle.ats_lists.specs.declared.format.Format.{Format}
use Rattle.ats_lists.specs.declared.format.Format.TheVariants.{One, Two}

-- the texts of a collection, and the format of their lists
pub record Archive : Type 0 where
  pub texts : List (List ℕ)
  pub format : Format

-- the archive of these texts in which each list is one tree
abbrev pub archive_of : List (List ℕ) → Archive
archive_of texts = record { texts = texts; format = One }

-- the byte before the header when the root is hashed
abbrev pub header_tag : Format → ℕ
header_tag One = 2
header_tag Two = 4

-- The number of a format in the bytes of files.
use Rattle.std.specs.Prelude.{ℕ}
use Rattle.ats_lists.specs.declared.format.Format.{Format}
use Rattle.ats_lists.specs.declared.format.Format.TheVariants.{One, Two}

abbrev pub number_of_format : Format → ℕ
number_of_format One = 1
number_of_format Two = 2

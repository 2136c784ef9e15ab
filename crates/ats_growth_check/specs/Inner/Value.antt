-- Beside specs/Value: what only the functions of this room promise one another.
use Rattle.std.specs.Prelude.{ℕ, List}
use Rattle.ats_dict.specs.declared.header.Header.{Header}
use Rattle.ats_lists.specs.declared.format.Format.{Format}
use Rattle.ats_growth_check.specs.Value.{Growth}

-- the growth with these parts
abbrev pub growth_of : Format → Header → Format → Header → List (List ℕ) → Growth
growth_of old_format old new_format new digests =
    record { old_format = old_format; old = old; new_format = new_format; new = new; digests = digests }

use Rattle.std.specs.List.{concat}
use Rattle.ats_growth_check.specs.Value.{fields_of}
use Rattle.ats_growth_check.proofs.Spelled.{spells}
use Rattle.ats_growth_check.proofs.laws.growths_in_range_are_spelled.Goals as goal

pub returns : goal.returns
returns c g range = (concat (fields_of g), spells g range)

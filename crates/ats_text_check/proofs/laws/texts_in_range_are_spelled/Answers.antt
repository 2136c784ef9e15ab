use Rattle.std.specs.List.{concat}
use Rattle.ats_text_check.specs.Value.{fields_of}
use Rattle.ats_text_check.proofs.Fields.{spells}
use Rattle.ats_text_check.proofs.laws.texts_in_range_are_spelled.Goals as goal

pub returns : goal.returns
returns c proof range = (concat (fields_of proof), spells proof range)

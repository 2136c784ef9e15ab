use Rattle.ats_grammar.proofs.Fronts.{trailing}
use Rattle.ats_grammar.proofs.laws.further_bytes_are_trailing.Goals as goal

pub returns : goal.returns
returns c = trailing

use Rattle.ats_grammar.proofs.Fronts.{one_spelling}
use Rattle.ats_grammar.proofs.laws.spellings_tell_their_fields.Goals as goal

pub returns : goal.returns
returns c = one_spelling

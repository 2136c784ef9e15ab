use Rattle.ats_grammar.proofs.Fronts.{one_fault, no_fault}
use Rattle.ats_grammar.proofs.laws.bytes_have_one_fault.Goals as goal

pub returns-clause-one : goal.returns-clause-one
returns-clause-one c = one_fault

pub returns-clause-none : goal.returns-clause-none
returns-clause-none c schema bytes fields fault spells bad = no_fault schema bytes fault fields bad spells

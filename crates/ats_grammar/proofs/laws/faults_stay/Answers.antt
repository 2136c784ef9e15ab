use Rattle.ats_grammar.proofs.Staying.{fault_stays}
use Rattle.ats_grammar.proofs.laws.faults_stay.Goals as goal

pub returns : goal.returns
returns c = fault_stays

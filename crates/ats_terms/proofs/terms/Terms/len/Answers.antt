use Rattle.std.proofs.Common.{arith}
use Rattle.ats_terms.proofs.Packing.{length-strings_from}
use Rattle.ats_terms.proofs.terms.Terms.len.Goals as goal

pub returns : goal.returns
returns c = rw (← c.self.view_is, length-strings_from) (omega arith)

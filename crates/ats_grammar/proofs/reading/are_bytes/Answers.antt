use Rattle.std.proofs.Common.{arith}
use Rattle.ats_grammar.proofs.reading.are_bytes.Goals as goal

pub returns : goal.returns
returns c i = let h = c.type_inv.bytes i in omega (arith, h)

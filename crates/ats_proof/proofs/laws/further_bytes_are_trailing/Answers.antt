use Rattle.ats_grammar.proofs.Public.{trailing}
use Rattle.ats_grammar.specs.Grammar.{proof_schema}
use Rattle.ats_proof.specs.Value.{fields_of}
use Rattle.ats_proof.proofs.laws.further_bytes_are_trailing.Goals as goal

pub returns : goal.returns
returns c = λ bytes more proof is. trailing proof_schema bytes more (fields_of proof) is.spells

-- The fields of the bytes that give a text, in their order.
use Rattle.std.specs.Prelude.{◌^◌}
use Rattle.ats_grammar.specs.declared.fault.ShapeKind.TheVariants.{Count}
use Rattle.ats_grammar.specs.Table.{Table, Schema, Number, Bytes}
use Rattle.ats_proof.specs.SharedTables.{file, archive, last_digests}

-- the text after its length, and the digests
abbrev pub text : Table
text = Number 4 0 1048576 Count (λ size. Bytes size (last_digests 32))

-- what the bytes must be: at most 2^21, which begin with ATSF
abbrev pub text_schema : Schema
text_schema = file (2 ^ 21) 0x41545346 (archive text)

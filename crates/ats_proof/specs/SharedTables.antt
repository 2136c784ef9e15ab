-- The fields that files of other kinds share with a proof.
use Rattle.std.specs.Prelude.{ℕ}
use Rattle.ats_grammar.specs.declared.fault.ShapeKind.TheVariants.{Magic, Version, Count}
use Rattle.ats_grammar.specs.Grammar.{digests, header}
use Rattle.ats_grammar.specs.Table.{Table, Schema, End, Number}

-- at most `limit` bytes, of which the first four are `magic`
abbrev pub file : ℕ → ℕ → Table → Schema
file limit magic rest = record { table = Number 4 magic magic Magic (λ _. rest); limit = limit }

-- the format of an archive's lists, and the archive's header
abbrev pub archive : Table → Table
archive rest = Number 1 1 2 Version (λ _. header rest)

-- at most `most` digests, after their number
abbrev pub last_digests : ℕ → Table
last_digests most = Number 1 0 most Count (λ n. digests n End)

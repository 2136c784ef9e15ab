-- The fields of the bytes that show a growth, in their order.
use Rattle.ats_grammar.specs.Table.{Table, Schema}
use Rattle.ats_proof.specs.SharedTables.{file, archive, last_digests}

-- the new archive, and the digests
abbrev pub after_old : Table
after_old = archive (last_digests 64)

-- what the bytes of a growth must be: at most 4,096, which begin with ATSG, then the old archive
abbrev pub growth_schema : Schema
growth_schema = file 4096 0x41545347 (archive after_old)

-- The fields of the bytes of a catalog's proof, in their order.
use Rattle.std.specs.Prelude.{ℕ, zero, suc, ◌^◌}
use Rattle.ats_grammar.specs.declared.fault.ShapeKind.TheVariants.{Version, Count}
use Rattle.ats_grammar.specs.Grammar.{digests}
use Rattle.ats_grammar.specs.Table.{Table, Schema, End, Number, Bytes}
use Rattle.ats_proof.specs.SharedTables.{file}

-- the proof of a shard after its length, which is at most 2^26
abbrev pub shard_proof : Table → Table
shard_proof rest = Number 4 0 (2 ^ 26) Count (λ size. Bytes size rest)

-- those of n shards
abbrev pub shard_proofs : ℕ → Table
shard_proofs zero = End
shard_proofs (suc n) = shard_proof (shard_proofs n)

-- version 1, the number of shards, the root of each, and the proof of each
abbrev pub after_magic : Table
after_magic = Number 1 1 1 Version (λ _. Number 4 1 4096 Count (λ n. digests n (shard_proofs n)))

-- what the bytes must be: at most 2^28, which begin with ATSS
abbrev pub catalog_schema : Schema
catalog_schema = file (2 ^ 28) 0x41545353 after_magic

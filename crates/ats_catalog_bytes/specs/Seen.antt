-- What contracts see of what is lent: the shards of a cursor, and one of them.
use Rattle.std.specs.Prelude.{List}
use Rattle.ats_catalog_bytes.specs.Bytes.{shards_in}
use Rattle.ats_catalog_bytes.specs.Value.{Framed}
use Rattle.ats_catalog_bytes.specs.declared.cursor.Shard.{Shard}
use Rattle.ats_catalog_bytes.specs.declared.cursor.ShardCursor.{ShardCursor}

-- the shards that a cursor has not passed
abbrev pub shards_left : ShardCursor → List Framed
shards_left cursor = shards_in cursor.roots.now cursor.proofs.now

-- what is lent of one shard
abbrev pub framed_of : Shard → Framed
framed_of shard = record { root = shard.root.now; bytes = shard.bytes.now }

use Rattle.std.proofs.Common.{sym}
use Rattle.ats_catalog_bytes.proofs.Joined.{shards-counted}
use Rattle.ats_catalog_bytes.proofs.cursor.ShardCursor.len.Goals as goal

pub returns : goal.returns
returns c = sym (shards-counted c.args.self.now.roots.now c.args.self.now.proofs.now)

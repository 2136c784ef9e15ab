use Rattle.std.proofs.Common.{[]}
use Rattle.ats_catalog_check.proofs.OneShard.{shard_of_catalog, catalog_of_shard, rows_of_shard, as_checked}
use Rattle.ats_catalog_check.proofs.laws.one_shard_is_the_check.Goals as goal

pub returns-clause-shown : goal.returns-clause-shown
returns-clause-shown g c root query r one = (
  λ accepts.
      let right = accepts.holds.1.0 in
      let shard = shard_of_catalog g.H.HashKind.hash root query r one right.proof right.says accepts in
      (accepts.holds.0, right.proof, right.says, shard.0, shard.1),
  λ is. catalog_of_shard g.H.HashKind.hash root query r one is.1 is.2 is.0 is.3 is.4,
)

pub returns-clause-check : goal.returns-clause-check
returns-clause-check g c root query r one proof some = as_checked g.H.HashKind.hash root query r one proof (c.rows_and_rests_settle.ensures query r proof some)

pub returns-clause-rows : goal.returns-clause-rows
returns-clause-rows g c query one proof rows says = rows_of_shard g.H.HashKind.hash [] query 0 one proof says rows

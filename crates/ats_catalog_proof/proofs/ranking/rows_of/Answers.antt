use Rattle.std.proofs.Common.{◌∙◌, nat_eq, sym, ap, arith}
use Rattle.std.specs.List.{count_by}
use Rattle.std.proofs.lemmas.List.{take_all}
use Rattle.ats_catalog_honest.specs.Ranking.{Ranked}
use Rattle.ats_catalog_proof.proofs.Sharing.{rows_counted}
use Rattle.ats_catalog_proof.proofs.ranking.rows_of.Goals as goal

pub returns-clause-value : goal.returns-clause-value
returns-clause-value c =
    c.loop-row.invariant
    ∙ ap (count_by (λ (one : Ranked). nat_eq one.shard c.args.shard)) (take_all c.loop-row.row-index c.args.rows.now (omega arith))
    ∙ sym (rows_counted c.args.shard 0 c.args.rows.now)

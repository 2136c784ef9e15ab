use Rattle.std.proofs.Common.{◌∙◌, ℕ, List, length, ap, ap₂}
use Rattle.ats_bound.specs.declared.share.Share.{Share}
use Rattle.ats_catalog_honest.specs.Ranking.{Ranked}
use Rattle.ats_catalog_honest.specs.Shares.{rows_from}
use Rattle.ats_catalog_proof.proofs.Sharing.{owners_of}
use Rattle.ats_catalog_proof.proofs.ranking.CatalogRanking.share.Goals as goal

pub returns-clause-value : goal.returns-clause-value
returns-clause-value g c =
    ap₂ (λ (rows floor : ℕ). let share : Share = record { rows = rows; floor = floor } in share)
    (c.rows_of.ensures.value ∙ ap (λ (rows : List Ranked). length (rows_from c.args.shard 0 (owners_of rows))) c.rows.ensures.value)
    (c.floor.ensures c.args.shard)

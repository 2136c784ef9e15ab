use Rattle.std.proofs.Common.{rules, nat_lt, sym}
use Rattle.std.proofs.lemmas.List.Sorted.{IsPartitionPoint-from_clause, IsPartitionedBy-ltb}
use Rattle.ats_honest.proofs.Public.{count_at_point, never_falls}
use Rattle.ats_prover.proofs.shown.place.Goals as goal

pub returns-clause-place : goal.returns-clause-place
returns-clause-place c =
    let point = IsPartitionPoint-from_clause (λ m. nat_lt m c.args.number) c.args.numbers.now c.partition_point.result c.partition_point.ensures.partitioned
    (IsPartitionedBy-ltb (λ m. m) c.args.numbers.now c.args.number (never_falls c.args.numbers.now c.requires)) (λ a r q k. search rules) in
    sym (count_at_point (λ m. nat_lt m c.args.number) c.args.numbers.now c.partition_point.result c.partition_point.ensures.bound point)

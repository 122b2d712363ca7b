use Rattle.std.proofs.Common.{nat_lt, rules}
use Rattle.std.proofs.lemmas.List.Sorted.{IsPartitionPoint-from_clause}
use Rattle.grant_table.specs.declared.rows.Row.{Row}
use Rattle.grant_table.proofs.Places.{partitioned, prefix_is}
use Rattle.grant_table.proofs.rows.place_from.Goals as goal

pub returns-clause-place : goal.returns-clause-place
returns-clause-place c =
    let parted = partitioned 0 c.args.n c.args.rows.now c.requires in
    let point =
    IsPartitionPoint-from_clause (λ (r : Row). nat_lt r.number c.args.n) _ _ c.partition_point.ensures.partitioned parted (λ a r q k. search rules) in
    prefix_is (λ (r : Row). nat_lt r.number c.args.n) c.args.rows.now c.partition_point.result c.partition_point.ensures.bound point.0 point.1

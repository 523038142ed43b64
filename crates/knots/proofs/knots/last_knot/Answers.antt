use Rattle.std.proofs.Common.{leb, rules, arith}
use Rattle.std.proofs.lemmas.List.Sorted.{IsPartitionPoint-from_clause}
use Rattle.knots.specs.Knots.{knots}
use Rattle.knots.proofs.Places.{parted, last_found}
use Rattle.knots.proofs.knots.last_knot.Goals as goal

pub overflow_sub-result : goal.overflow_sub-result
overflow_sub-result c =
    (last_found c.args.residual c.partition_point.result
    (IsPartitionPoint-from_clause (λ k. leb k c.args.residual) knots _ c.partition_point.ensures.partitioned (parted c.args.residual) (λ a r q k. search rules))
    (omega (arith, c.partition_point.ensures.bound))).0

pub returns-clause-value : goal.returns-clause-value
returns-clause-value c =
    (last_found c.args.residual c.partition_point.result
    (IsPartitionPoint-from_clause (λ k. leb k c.args.residual) knots _ c.partition_point.ensures.partitioned (parted c.args.residual) (λ a r q k. search rules))
    (omega (arith, c.partition_point.ensures.bound))).1

use Rattle.std.proofs.Common.{ltb, rules}
use Rattle.std.proofs.lemmas.List.Sorted.{IsPartitionPoint-from_clause}
use Rattle.risk.proofs.Bands.{ends, ends_part, band_at, band_fits}
use Rattle.risk.proofs.initial.rate_of_band.Goals as goal

pub returns-clause-value : goal.returns-clause-value
returns-clause-value c =
    let r = c.args.residual in
    let b = c.partition_point-band.result in
    let point = IsPartitionPoint-from_clause (λ e. ltb e r) ends b c.partition_point-band.ensures.partitioned (ends_part r) (λ a q f h. search rules) in
    simp (band_at r b point c.partition_point-band.ensures.bound) (band_fits r)

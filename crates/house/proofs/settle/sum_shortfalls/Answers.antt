use Rattle.std.proofs.Common.{◌≡◌, ◌≤◌, sum_by, rules, arith}
use Rattle.std.proofs.iter.runs.Sources.{sums}
use Rattle.std.proofs.lemmas.List.Sums.{sum_by-le}
use Rattle.tables.specs.declared.row.AccountRow.{AccountRow}
use Rattle.house.proofs.settle.sum_shortfalls.Goals as goal

pub sum-requires-clause-fits : goal.sum-requires-clause-fits
sum-requires-clause-fits c =
    let most : sum_by (λ (r : AccountRow). r.shortfall) c.args.rows.now ≤ 93000000000000000 = omega (arith, sum_by-le (λ (r : AccountRow). r.shortfall) 3000000000000000 c.args.rows.now c.requires.each, c.requires.few) in
    search (rules, sums)

pub returns-clause-bound : goal.returns-clause-bound
returns-clause-bound c =
    let is : c.sum.result ≡ sum_by (λ (r : AccountRow). r.shortfall) c.args.rows.now = search rules in
    omega (arith, is, sum_by-le (λ (r : AccountRow). r.shortfall) 3000000000000000 c.args.rows.now c.requires.each, c.requires.few)

use Rattle.std.proofs.Common.{◌≤◌, sym, subst}
use Rattle.std.specs.List.{All}
use Rattle.tables.specs.declared.row.AccountRow.{AccountRow}
use Rattle.house.proofs.Finishing.{shortfalls_fit}
use Rattle.house.proofs.settle.stored_cover.Goals as goal

pub sum_shortfalls-requires-clause-each : goal.sum_shortfalls-requires-clause-each
sum_shortfalls-requires-clause-each c =
    subst (All (λ (r : AccountRow). r.shortfall ≤ 3000000000000000)) (sym c.constituents.ensures) (shortfalls_fit c.args.house.now.accounts c.args.records.now c.args.trades.now c.requires)

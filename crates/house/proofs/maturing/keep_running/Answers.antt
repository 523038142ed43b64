use Rattle.std.proofs.Common.{◌≡◌, ◌<◌, length, get_or, arith}
use Rattle.std.proofs.lemmas.List.{get_or_default}
use Rattle.std.proofs.lemmas.List.Filters.{FiltersInPlace-more_no, FiltersInPlace-more_set}
use Rattle.std.proofs.lemmas.Bool.{le-leb, lt-leb}
use Rattle.tables.specs.declared.row.TradeRow.{TradeRow}
use Rattle.tables.specs.Limits.{no_trade}
use Rattle.house.proofs.maturing.keep_running.Goals as goal
use Rattle.house.proofs.maturing.keep_running.Goals.{then-trade-month, else-trade-month}

pub loop-i-preserved : goal.loop-i-preserved
loop-i-preserved c =
    let ys = c.loop-i.trades in
    let i = c.loop-i.i in
    let k = c.loop-i.invariant in
    let lt : i < length ys = omega (arith, k.long, c.loop-i-test.true) in
    let x : TradeRow = get_or ys i no_trade in
    let same : x ≡ get_or ys i x = get_or_default ys i no_trade x lt in
    elim c.if-trade-month.branch [
      | then-trade-month w ↦ rw (w.trades-is, w.running-is) (FiltersInPlace-more_set k lt (le-leb c.args.month x.maturity w.if-trade-month.true) same)
      | else-trade-month w ↦ rw (w.trades-is, w.running-is) (FiltersInPlace-more_no k lt (lt-leb c.args.month x.maturity w.if-trade-month.false) same)
    ]

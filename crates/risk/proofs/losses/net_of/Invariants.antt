use Rattle.std.proofs.Common.{◌≡◌, ◌*◌, ◌≤◌, length, take, nat_abs, pos, ◌*ℤ◌}
use Rattle.tables.specs.Codes.{side_of}
use Rattle.tables.specs.declared.codes.Side.TheVariants.{Pay}
use Rattle.tables.specs.declared.row.TradeRow.{TradeRow}
use Rattle.risk.specs.Signs.{signed_sum, negated_for}
use Rattle.risk.proofs.losses.net_of.Given as goal

abbrev pub invariant-loop-trade : goal.invariant-loop-trade
invariant-loop-trade l =
    (l.trade-index ≤ length l.trade-items) × (l.net ≡ signed_sum (λ (t : TradeRow). negated_for Pay (side_of t.side) (pos t.notional *ℤ pos 1)) (take l.trade-index l.trade-items)) × (nat_abs l.net ≤ l.trade-index * 1000000)

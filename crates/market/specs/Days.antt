-- Time.
-- residual_of: the months from the current month to a trade's maturity, held within 0 and 120.
use Rattle.std.specs.Prelude.{ℕ, ◌-◌, min}
use Rattle.tables.specs.declared.row.TradeRow.{TradeRow}
use Rattle.market.specs.declared.day.Day.{Day}

abbrev pub residual_of : Day → TradeRow → ℕ
residual_of d t = min (t.maturity - d.month) 120

-- Records with one field changed.
-- with_cash, with_lots, with_trades, with_second: cash, the lots, the number of trades, the second flag.
use Rattle.std.specs.Prelude.{ℕ, Bool, List}
use Rattle.tables.specs.declared.row.AccountRow.{AccountRow}

abbrev pub with_cash : AccountRow → ℕ → AccountRow
with_cash r n = record r { cash = n }

abbrev pub with_lots : AccountRow → List ℕ → AccountRow
with_lots r ls = record r { lots = ls }

abbrev pub with_trades : AccountRow → ℕ → AccountRow
with_trades r n = record r { trades = n }

abbrev pub with_second : AccountRow → Bool → AccountRow
with_second r b = record r { second = b }

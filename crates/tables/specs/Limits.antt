-- The limits of rows.
-- trade_keeps: a trade's benchmark, side, notional and fixed rate are in range.
-- trades_stand: at most 64 trades, each in range.
-- lots_keep, levels_keep, holdings_keep: the lots, the two levels of a family, and cash, lots, levels and number of trades of an account are in range.
-- security_keeps: price and haircut of a security are in range.
-- is_empty, places_keep: the first places hold trades in range, and the rest nothing.
-- figures_keep, book_keeps: obligation, available and shortfall of an account, and all of its record and places, are in range.
-- house_keeps, constituent_keeps: the same of the house, whose obligation and shortfall carry the cover, and of a constituent.
-- tables_keep: question 1, of a house with n accounts.
-- no_trade, no_security: the rows that `slice_index_or` gives past the end of a table.
use Rattle.std.specs.Prelude.{ℕ, ◌*◌, Bool, false, ◌&&◌, List, length, take, drop, ◌==◌, nat_le, slice_index_or}
use Rattle.tables.specs.declared.row.AccountRow.{AccountRow}
use Rattle.tables.specs.declared.row.Levels.{Levels}
use Rattle.tables.specs.declared.row.SecurityRow.{SecurityRow}
use Rattle.tables.specs.declared.row.TradeRow.{TradeRow}
use Rattle.tables.specs.Books.{Book, books_of, no_book}
use Rattle.std.specs.List.{list_all}

abbrev pub no_trade : TradeRow
no_trade = record { number = 0; benchmark = 0; side = 0; maturity = 0; notional = 0; rate = 0 }

abbrev pub no_security : SecurityRow
no_security = record { price = 0; haircut = 0; listed = false }

abbrev pub trade_keeps : TradeRow → Bool
trade_keeps t =
    nat_le t.benchmark 3 && (nat_le t.side 1 && (nat_le 1 t.notional && (nat_le t.notional 1000000 && nat_le t.rate 200000)))

abbrev pub trades_stand : List TradeRow → Bool
trades_stand ts = nat_le (length ts) 64 && list_all trade_keeps ts

abbrev pub lots_keep : List ℕ → Bool
lots_keep ls = list_all (λ n. nat_le n 1000000) ls

abbrev pub levels_keep : Levels → Bool
levels_keep l = nat_le l.initial 2 && nat_le l.gross 2

abbrev pub holdings_keep : AccountRow → Bool
holdings_keep r =
    nat_le r.cash 100000000000000
    && (nat_le r.trades 64 && (levels_keep r.overnight && (levels_keep r.forward && lots_keep r.lots)))

abbrev pub security_keeps : SecurityRow → Bool
security_keeps s = nat_le s.price 30000 && nat_le s.haircut 100

abbrev pub is_empty : TradeRow → Bool
is_empty t =
    (t.number == 0) && (t.benchmark == 0 && (t.side == 0 && (t.maturity == 0 && (t.notional == 0 && t.rate == 0))))

abbrev pub places_keep : ℕ → List TradeRow → Bool
places_keep n ps = nat_le n 64 && (list_all trade_keeps (take n ps) && list_all is_empty (drop n ps))

-- `most` is the most that obligation and shortfall may be
abbrev pub figures_keep : ℕ → AccountRow → Bool
figures_keep most r = nat_le r.obligation most && (nat_le r.available 3000000000000000 && nat_le r.shortfall most)

abbrev pub book_keeps : ℕ → Book → Bool
book_keeps most b = holdings_keep b.row && (figures_keep most b.row && places_keep b.row.trades b.places)

abbrev pub house_keeps : Book → Bool
house_keeps b = book_keeps 96000000000000000 b

abbrev pub constituent_keeps : Book → Bool
constituent_keeps b = book_keeps 3000000000000000 b

abbrev pub tables_keep : ℕ → List AccountRow → List TradeRow → Bool
tables_keep n rs ts =
    (length rs == n)
    && (length ts == 64 * n
    && (house_keeps (slice_index_or (books_of rs ts) 0 no_book) && list_all constituent_keeps (drop 1 (books_of rs ts))))

-- What an accepted account call changes in the named account's book, before it settles.
-- is_other: a trade has another number. place_of: where the first trade of a number stands, past the trades where there is none. holds: whether there is one.
-- closed: the trades without the one at a place, closed up. changed: the change of each call.
use Rattle.std.specs.Prelude.{ℕ, ◌+◌, ◌-◌, Bool, not, List, [], ◌∷◌, ◌++◌, length, ◌==◌, nat_lt, slice_index, slice_set}
use Rattle.std.specs.List.{prefix_len, remove}
use Rattle.tables.specs.declared.row.TradeRow.{TradeRow}
use Rattle.tables.specs.Books.{Book, book, standing_of}
use Rattle.tables.specs.Limits.{no_trade}
use Rattle.rules.specs.declared.call.AccountCall.{AccountCall}
use Rattle.rules.specs.declared.call.AccountCall.TheVariants.{Trade, End, LodgeCash, DrawCash, LodgeSecurity, DrawSecurity, Show}
use Rattle.rules.specs.Rows.{with_cash, with_lots, with_trades}

abbrev pub is_other : ℕ → TradeRow → Bool
is_other number t = not (t.number == number)

abbrev pub place_of : ℕ → List TradeRow → ℕ
place_of number ts = prefix_len (is_other number) ts

abbrev pub holds : ℕ → List TradeRow → Bool
holds number ts = nat_lt (place_of number ts) (length ts)

abbrev pub closed : ℕ → List TradeRow → List TradeRow
closed k ps = remove ps k ++ no_trade ∷ []

abbrev pub changed : AccountCall → Book → Book
changed (Trade t) b = book (with_trades b.row (b.row.trades + 1)) (slice_set b.places b.row.trades t)
changed (End n) b = book (with_trades b.row (b.row.trades - 1)) (closed (place_of n (standing_of b)) b.places)
changed (LodgeCash x) b = book (with_cash b.row (b.row.cash + x)) b.places
changed (DrawCash x) b = book (with_cash b.row (b.row.cash - x)) b.places
changed (LodgeSecurity s n) b = book (with_lots b.row (slice_set b.row.lots s (slice_index b.row.lots s + n))) b.places
changed (DrawSecurity s n) b = book (with_lots b.row (slice_set b.row.lots s (slice_index b.row.lots s - n))) b.places
changed Show b = b

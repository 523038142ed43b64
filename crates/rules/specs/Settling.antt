-- How one account settles.
-- figured_row: a record with given figures, the obligation carrying the cover. settled_row: figures, levels and own flag of a record anew,
-- at a cover (0 for a constituent). settled: of a book. house_settled: of the house, whose second flag is cleared.
-- row_reflagged, reflagged: a constituent's second flag anew, in its record and in its book.
use Rattle.std.specs.Prelude.{ℕ, ◌+◌, ◌-◌, Bool, false, List}
use Rattle.models.specs.Meaning.{Meaning}
use Rattle.tables.specs.declared.row.AccountRow.{AccountRow}
use Rattle.tables.specs.declared.row.TradeRow.{TradeRow}
use Rattle.tables.specs.Books.{Book, book, standing_of}
use Rattle.market.specs.declared.state.MarketState.{MarketState}
use Rattle.margins.specs.declared.figures.Figures.{Figures}
use Rattle.margins.specs.Figures.{figures_of}
use Rattle.margins.specs.Flags.{own_after, second_after}
use Rattle.rules.specs.Rows.{with_second}

abbrev pub figured_row : ℕ → AccountRow → Figures → AccountRow
figured_row cover r f = record r {
  obligation = f.obligation + cover;
  available = f.available;
  shortfall = f.obligation + cover - f.available;
  overnight = f.overnight.levels;
  forward = f.forward.levels;
  own = own_after r.own (f.obligation + cover) f.available;
}

unfoldable pub settled_row : Meaning → MarketState → ℕ → AccountRow → List TradeRow → AccountRow
settled_row m k cover r ts = figured_row cover r (figures_of m k r ts)

abbrev pub settled : Meaning → MarketState → ℕ → Book → Book
settled m k cover b = book (settled_row m k cover b.row (standing_of b)) b.places

abbrev pub house_settled : Meaning → MarketState → ℕ → Book → Book
house_settled m k cover b = book (with_second (settled_row m k cover b.row (standing_of b)) false) b.places

abbrev pub row_reflagged : Bool → AccountRow → AccountRow
row_reflagged restricted r = with_second r (second_after restricted r.second r.obligation r.available)

abbrev pub reflagged : Bool → Book → Book
reflagged restricted b = book (row_reflagged restricted b.row) b.places

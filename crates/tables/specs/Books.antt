-- Accounts as the two tables hold them.
-- Book: the record of an account and its 64 trade places. books_of: every account's book, read out of the tables.
-- places_at: the places of one account. standing_of: the trades that stand in a book.
-- rows_in, places_in: the tables that hold some books. put_places: the places of one account written.
-- no_row, no_levels, no_book: what `slice_index_or` gives past the end.
use Rattle.std.specs.Prelude.{ℕ, ◌+◌, ◌*◌, false, List, [], ◌∷◌, ◌++◌, map, take, drop}
use Rattle.tables.specs.declared.row.AccountRow.{AccountRow}
use Rattle.tables.specs.declared.row.Levels.{Levels}
use Rattle.tables.specs.declared.row.TradeRow.{TradeRow}

pub record Book : Type 0 where
  pub row : AccountRow
  pub places : List TradeRow

abbrev pub book : AccountRow → List TradeRow → Book
book r ps = record { row = r; places = ps }

abbrev pub no_levels : Levels
no_levels = record { initial = 0; gross = 0 }

abbrev pub no_row : AccountRow
no_row = record { cash = 0; obligation = 0; available = 0; shortfall = 0; lots = []; overnight = no_levels; forward = no_levels; trades = 0; own = false; second = false }

abbrev pub no_book : Book
no_book = book no_row []

abbrev pub places_at : List TradeRow → ℕ → List TradeRow
places_at ts i = take 64 (drop (64 * i) ts)

abbrev pub books_of : List AccountRow → List TradeRow → List Book
books_of [] ts = []
books_of (r ∷ rs) ts = book r (take 64 ts) ∷ books_of rs (drop 64 ts)

abbrev pub standing_of : Book → List TradeRow
standing_of b = take b.row.trades b.places

abbrev pub rows_in : List Book → List AccountRow
rows_in bs = map (λ b. b.row) bs

abbrev pub places_in : List Book → List TradeRow
places_in [] = []
places_in (b ∷ bs) = b.places ++ places_in bs

-- the places of account i are ps, and the others' are as they were
abbrev pub put_places : List TradeRow → ℕ → List TradeRow → List TradeRow
put_places ts i ps = take (64 * i) ts ++ (ps ++ drop (64 * i + 64) ts)

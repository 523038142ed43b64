-- The stand that lent tables hold, and the tables back out of it.
use Rattle.std.proofs.Common.{◌≡◌, ℕ, ◌≤◌, true, List, ap, ◌∙◌, arith}
use Rattle.tables.specs.declared.row.AccountRow.{AccountRow}
use Rattle.tables.specs.declared.row.TradeRow.{TradeRow}
use Rattle.tables.specs.Books.{books_of, rows_in, places_in}
use Rattle.tables.specs.Limits.{tables_keep}
use Rattle.tables.proofs.Books.{kept, length_books, books_whole, rows_back, places_back}
use Rattle.market.specs.declared.state.MarketState.{MarketState}
use Rattle.rules.specs.Stands.{standing, books_in, rows_of, trades_of}

module _ (k : MarketState) (n : ℕ) (rs : List AccountRow) (ts : List TradeRow) (some : 1 ≤ n) (h : tables_keep n rs ts ≡ true) where
  pub books_stand : books_in (standing k rs ts) ≡ books_of rs ts
  books_stand = books_whole (books_of rs ts) (omega (arith, (kept n rs ts h).rows, length_books rs ts))

  pub rows_stand : rows_of (standing k rs ts) ≡ rs
  rows_stand = ap rows_in books_stand ∙ rows_back rs ts

  pub trades_stand : trades_of (standing k rs ts) ≡ ts
  trades_stand = ap places_in books_stand ∙ places_back rs ts (omega (arith, (kept n rs ts h).rows, (kept n rs ts h).places))

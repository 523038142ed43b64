-- A book without its matured trades: it is what the code leaves, and within its limits.
use Rattle.std.proofs.Common.{◌≡◌, ℕ, ◌-◌, ◌≤◌, true, ◌&&◌, leb, List, length, drop, replicate, filter, refl, ap, ◌∙◌, arith, length-append, length-take, take_at, drop_at}
use lib.ListN.{length-replicate}
use Rattle.std.proofs.lemmas.List.Sums.{length-filter, count_by-le-length}
use Rattle.std.proofs.lemmas.Bool.{and_parts, and_from, le-leb}
use Rattle.tables.specs.declared.row.TradeRow.{TradeRow}
use Rattle.tables.specs.Books.{Book, standing_of}
use Rattle.tables.specs.Limits.{trade_keeps, is_empty, no_trade, places_keep, book_keeps}
use Rattle.std.specs.List.{list_all}
use Rattle.tables.proofs.Alls.{list_all_kept, list_all_replicate}
use Rattle.tables.proofs.Facts.{booked, booked_from}
use Rattle.accounts.proofs.Steps.{held_trades}
use Rattle.rules.specs.MarketCalls.{running, closed_up, matured_out}

-- no more trades are left than stood
left_few : (month : ℕ) (b : Book) → length b.places ≡ 64 → length (filter (running month) (standing_of b)) ≤ 64
left_few month b long = omega (arith, length-filter (running month) (standing_of b), count_by-le-length (running month) (standing_of b), length-take b.row.trades b.places)

pub matured_long : (month : ℕ) (b : Book) → length b.places ≡ 64 → length (matured_out month b).places ≡ 64
unfolding matured_out
matured_long month b long =
    let ts = filter (running month) (standing_of b) in
    omega (arith, length-append ts (replicate (64 - length ts) no_trade), length-replicate (64 - length ts) no_trade, left_few month b long)

closed_keeps : (ts : List TradeRow) → length ts ≤ 64 → list_all trade_keeps ts ≡ true → places_keep (length ts) (closed_up ts) ≡ true
closed_keeps ts few h =
    let rest = replicate (64 - length ts) no_trade in
    and_from _ _ (le-leb (length ts) 64 few)
    (and_from _ _
    (ap (list_all trade_keeps) (take_at ts rest (length ts) refl) ∙ h)
    (ap (list_all is_empty) (drop_at ts rest (length ts) refl) ∙ list_all_replicate is_empty no_trade (64 - length ts) refl))

pub matured_keeps : (most month : ℕ) (b : Book) → length b.places ≡ 64 → book_keeps most b ≡ true → book_keeps most (matured_out month b) ≡ true
unfolding matured_out
matured_keeps most month b long h =
    let k = booked most b h in
    let ts = filter (running month) (standing_of b) in
    let p = and_parts (leb b.row.trades 64) (list_all trade_keeps (standing_of b) && list_all is_empty (drop b.row.trades b.places)) k.places in
    let q = and_parts (list_all trade_keeps (standing_of b)) (list_all is_empty (drop b.row.trades b.places)) p.1 in
    booked_from most (matured_out month b) (record {
      holdings = held_trades b.row (length ts) k.holdings (left_few month b long);
      figures = k.figures;
      places = closed_keeps ts (left_few month b long) (list_all_kept trade_keeps (running month) (standing_of b) q.0);
    })

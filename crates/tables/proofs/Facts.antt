-- What the limits of a record tell, each fact under its name.
use Rattle.std.proofs.Common.{◌≡◌, ℕ, ◌≤◌, true, ◌&&◌, leb, List, take, drop, arith, length-take}
use Rattle.std.specs.List.{All, list_all}
use Rattle.std.proofs.lemmas.Bool.{and_parts, and_from, leb-true, le-leb}
use Rattle.tables.specs.declared.row.AccountRow.{AccountRow}
use Rattle.tables.specs.declared.row.TradeRow.{TradeRow}
use Rattle.tables.specs.Books.{Book}
use Rattle.tables.specs.Limits.{holdings_keep, levels_keep, lots_keep, figures_keep, places_keep, book_keeps, trade_keeps, is_empty, trades_stand}
use Rattle.tables.proofs.Alls.{all_from}

pub record Held (r : AccountRow) : Type 0 where
  pub cash : r.cash ≤ 100000000000000
  pub trades : r.trades ≤ 64
  pub overnight : levels_keep r.overnight ≡ true
  pub forward : levels_keep r.forward ≡ true
  pub lots : All (λ n. n ≤ 1000000) r.lots

pub held : (r : AccountRow) → holdings_keep r ≡ true → Held r
held r h =
    let a = and_parts (leb r.cash 100000000000000) _ h in
    let b = and_parts (leb r.trades 64) _ a.1 in
    let d = and_parts (levels_keep r.overnight) _ b.1 in
    let e = and_parts (levels_keep r.forward) (lots_keep r.lots) d.1 in
    record {
      cash = leb-true _ _ a.0;
      trades = leb-true _ _ b.0;
      overnight = d.0;
      forward = e.0;
      lots = all_from (λ n. leb n 1000000) (λ n. n ≤ 1000000) (λ n yes'. leb-true n 1000000 yes') r.lots e.1;
    }

-- the figures of a record within their limits
pub record Figured (most : ℕ) (r : AccountRow) : Type 0 where
  pub obligation : r.obligation ≤ most
  pub available : r.available ≤ 3000000000000000
  pub shortfall : r.shortfall ≤ most

pub figured : (most : ℕ) (r : AccountRow) → figures_keep most r ≡ true → Figured most r
figured most r h =
    let a = and_parts (leb r.obligation most) _ h in
    let b = and_parts (leb r.available 3000000000000000) (leb r.shortfall most) a.1 in
    record { obligation = leb-true _ _ a.0; available = leb-true _ _ b.0; shortfall = leb-true _ _ b.1 }

pub figured_from : (most : ℕ) (r : AccountRow) → r.obligation ≤ most → r.available ≤ 3000000000000000 → r.shortfall ≤ most → figures_keep most r ≡ true
figured_from most r a b d = and_from _ _ (le-leb _ _ a) (and_from _ _ (le-leb _ _ b) (le-leb _ _ d))

-- the parts of a book within its limits
pub record Booked (most : ℕ) (b : Book) : Type 0 where
  pub holdings : holdings_keep b.row ≡ true
  pub figures : figures_keep most b.row ≡ true
  pub places : places_keep b.row.trades b.places ≡ true

pub booked : (most : ℕ) (b : Book) → book_keeps most b ≡ true → Booked most b
booked most b h =
    let p = and_parts (holdings_keep b.row) (figures_keep most b.row && places_keep b.row.trades b.places) h in
    let q = and_parts (figures_keep most b.row) (places_keep b.row.trades b.places) p.1 in
    record { holdings = p.0; figures = q.0; places = q.1 }

pub booked_from : (most : ℕ) (b : Book) → Booked most b → book_keeps most b ≡ true
booked_from most b k = and_from _ _ k.holdings (and_from _ _ k.figures k.places)

-- the trades that stand in a book stand
pub standing_stands : (n : ℕ) (ps : List TradeRow) → places_keep n ps ≡ true → trades_stand (take n ps) ≡ true
standing_stands n ps h =
    let p = and_parts (leb n 64) (list_all trade_keeps (take n ps) && list_all is_empty (drop n ps)) h in
    let q = and_parts (list_all trade_keeps (take n ps)) (list_all is_empty (drop n ps)) p.1 in
    and_from _ _ (le-leb _ 64 (omega (arith, leb-true n 64 p.0, length-take n ps))) q.0

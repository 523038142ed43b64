use Rattle.std.proofs.Common.{◌≡◌, ◌-◌, length, ap, ◌∙◌, arith, rules}
use Rattle.tables.specs.Books.{book, standing_of}
use Rattle.tables.specs.Limits.{places_keep}
use Rattle.tables.proofs.Facts.{held}
use Rattle.rules.specs.Changes.{closed, place_of}
use Rattle.accounts.proofs.Steps.{held_trades, shorter, ending_at}
use Rattle.accounts.proofs.book.HeldBook.without_trade.Goals as goal

pub invariant_of-result : goal.invariant_of-result
invariant_of-result c =
    let h = c.args.self in
    let b = book h.row h.places in
    let at = place_of c.args.number (standing_of b) in
    let long : length h.places ≡ 64 = search rules in
    let is : c.close_up.new.places ≡ closed at h.places = search rules in
    record {
      holdings = held_trades h.row (h.row.trades - 1) h.holdings (omega (arith, (held h.row h.holdings).trades));
      trades = ap (places_keep (h.row.trades - 1)) is ∙ shorter h.row.trades at h.places (ending_at c.args.number b c.requires) long h.trades;
    }

-- Steps of an account call.
-- can_change: the change of a call can be made in a book. new_trade_keeps: the trade of a new trade is within its limits. book_in: the book that a held book is.
-- Within: the figures of a record are within their limits.
-- Previewed: a previewed call is refused as the verdict says, or leaves the book that the verdict grants.
use Rattle.std.specs.Prelude.{◌≡◌, ℕ, ◌+◌, ◌≤◌, Bool, true, ◌&&◌, Ok, Err, Result, nat_le, nat_lt, slice_index}
use Rattle.tables.specs.declared.row.AccountRow.{AccountRow}
use Rattle.tables.specs.Books.{Book, book, standing_of}
use Rattle.tables.specs.Limits.{trade_keeps}
use Rattle.rules.specs.declared.call.AccountCall.{AccountCall}
use Rattle.rules.specs.declared.call.AccountCall.TheVariants.{Trade, End, LodgeCash, DrawCash, LodgeSecurity, DrawSecurity, Show}
use Rattle.refusals.specs.declared.refusal.Refusal.{Refusal}
use Rattle.rules.specs.Changes.{holds}
use Rattle.rules.specs.Stands.{Verdict, refused, granted}
use Rattle.accounts.specs.declared.book.HeldBook.{HeldBook}

abbrev pub can_change : AccountCall → Book → Bool
can_change (Trade t) b = nat_lt b.row.trades 64
can_change (End n) b = holds n (standing_of b)
can_change (LodgeCash x) b = nat_le (b.row.cash + x) 100000000000000
can_change (DrawCash x) b = nat_le x b.row.cash
can_change (LodgeSecurity s n) b = nat_lt s 32 && nat_le (slice_index b.row.lots s + n) 1000000
can_change (DrawSecurity s n) b = nat_lt s 32 && nat_le n (slice_index b.row.lots s)
can_change Show b = true

abbrev pub new_trade_keeps : AccountCall → Bool
new_trade_keeps (Trade t) = trade_keeps t
new_trade_keeps _ = true

abbrev pub book_in : HeldBook → Book
book_in h = book h.row h.places

-- what an account owes has the cover on top, and so has what it lacks
pub record Within (cover : ℕ) (q : AccountRow) : Type 0 where
  pub obligation : q.obligation ≤ 3000000000000000 + cover
  pub available : q.available ≤ 3000000000000000
  pub shortfall : q.shortfall ≤ 3000000000000000 + cover

abbrev pub Previewed : ℕ → Verdict Book → Result HeldBook Refusal → Type 0
Previewed cover v (Ok h) = (v ≡ granted (book_in h)) × Within cover h.row
Previewed cover v (Err e) = v ≡ refused e

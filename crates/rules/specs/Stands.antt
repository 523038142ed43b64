-- The house with its accounts, and what an account call makes of it.
-- Stand: the market, the house's book and the constituents' books. stand_of, standing: the stand that books, and two tables, hold.
-- books_in: all books, the house's first. rows_of, trades_of: the tables that hold a stand.
-- shortfalls, cover_of: the sum of the shortfalls of books, and of the constituents. cover_for: the cover for one account: the house alone has one.
-- Verdict: a call is refused, or granted with the book that it leaves. tried: the book as it would settle with the change.
-- ordered: what a call on one account comes to, from that account's book alone (with the cover, for the house). verdict: of an account in a stand.
-- flagged_by, finish: cover and house settled, then all second flags. concluded: the stand after a verdict. after_account: after an account call.
-- AtRest: tables that are settled.
use Rattle.std.specs.Prelude.{◌≡◌, ℕ, Bool, if◌then◌else◌, List, ◌∷◌, map, length, drop, sum_by, ◌==◌, nat_lt, slice_index_or, slice_set}
use Rattle.models.specs.Meaning.{Meaning}
use Rattle.tables.specs.declared.row.AccountRow.{AccountRow}
use Rattle.tables.specs.declared.row.TradeRow.{TradeRow}
use Rattle.tables.specs.Books.{Book, books_of, no_book, rows_in, places_in}
use Rattle.market.specs.declared.state.MarketState.{MarketState}
use Rattle.rules.specs.declared.call.AccountCall.{AccountCall}
use Rattle.refusals.specs.declared.refusal.Refusal.{Refusal}
use Rattle.refusals.specs.Refusals.{first_no, decided}
use Rattle.rules.specs.Settling.{settled, house_settled, reflagged}
use Rattle.rules.specs.Changes.{changed}
use Rattle.rules.specs.Questions.{asked_before, asked_after}

pub record Stand : Type 0 where
  pub market : MarketState
  pub house : Book
  pub constituents : List Book

abbrev pub stand_of : MarketState → List Book → Stand
stand_of k bs = record { market = k; house = slice_index_or bs 0 no_book; constituents = drop 1 bs }

abbrev pub standing : MarketState → List AccountRow → List TradeRow → Stand
standing k rs ts = stand_of k (books_of rs ts)

abbrev pub books_in : Stand → List Book
books_in s = s.house ∷ s.constituents

abbrev pub rows_of : Stand → List AccountRow
rows_of s = rows_in (books_in s)

abbrev pub trades_of : Stand → List TradeRow
trades_of s = places_in (books_in s)

abbrev pub shortfalls : List Book → ℕ
shortfalls bs = sum_by (λ b. b.row.shortfall) bs

abbrev pub cover_of : Stand → ℕ
cover_of s = shortfalls s.constituents

pub data Verdict (X : Type 0) : Type 0 where
  refused : Refusal → Verdict X
  granted : X → Verdict X

abbrev pub tried : Meaning → MarketState → ℕ → Book → AccountCall → Book
tried m k cover b c = settled m k cover (changed c b)

abbrev pub ordered : Meaning → MarketState → Bool → ℕ → Book → AccountCall → Verdict Book
ordered m k house cover b c =
    decided (first_no (asked_before k b c))
    (decided (first_no (asked_after house b.row (tried m k cover b c).row c)) (granted (tried m k cover b c)) refused)
    refused

-- the house h, settled, and the constituents flagged anew
abbrev pub flagged_by : MarketState → Book → List Book → Stand
flagged_by k h cs = record { market = k; house = h; constituents = map (reflagged h.row.own) cs }

abbrev pub finish : Meaning → Stand → Stand
finish m s = flagged_by s.market (house_settled m s.market (cover_of s) s.house) s.constituents

abbrev pub cover_for : Stand → ℕ → ℕ
cover_for s i = if i == 0 then cover_of s else 0

abbrev pub verdict : Meaning → Stand → ℕ → AccountCall → Verdict Book
verdict m s i c = ordered m s.market (i == 0) (cover_for s i) (slice_index_or (books_in s) i no_book) c

abbrev pub concluded : Meaning → Stand → ℕ → Verdict Book → Stand
concluded m s i (refused e) = s
concluded m s i (granted b) = finish m (stand_of s.market (slice_set (books_in s) i b))

abbrev pub after_account : Meaning → Stand → ℕ → AccountCall → Stand
after_account m s i c = if nat_lt i (length (books_in s)) then concluded m s i (verdict m s i c) else s

-- settling the tables once more, the house at the cover and the second flags at the restriction, changes nothing
abbrev pub AtRest : Meaning → MarketState → List AccountRow → List TradeRow → Type 0
AtRest m k rs ts = rows_of (finish m (standing k rs ts)) ≡ rs

-- What an account call answers, and what any account call makes of any tables.
-- restriction_of: 0 none, 1 own, 2 second, 3 both. answer_of: an answer with the figures of a record.
-- blank_answer: an answer without figures, after refusals 1 and 2. verdict_number: 0, or the number of the refusal.
-- account_reply: the answer to a call on tables that keep their limits. Outcome, account_outcome: the answer and both tables after a call, whatever tables it brings.
-- left_alone, house_left, OthersLeft: what a call leaves of a constituent, of the house, and of all the accounts that it does not name.
-- Answered: all that a public account call promises.
use Rattle.std.specs.Prelude.{◌≡◌, ℕ, suc, ◌+◌, ◌<◌, Bool, true, if◌then◌else◌, List, length, ◌==◌, ◌≢◌, nat_lt, slice_index_or}
use Rattle.models.specs.Meaning.{Meaning}
use Rattle.tables.specs.declared.row.AccountRow.{AccountRow}
use Rattle.tables.specs.declared.row.TradeRow.{TradeRow}
use Rattle.tables.specs.Books.{Book, book, no_book, no_row, places_at}
use Rattle.tables.specs.Limits.{tables_keep}
use Rattle.market.specs.declared.state.MarketState.{MarketState}
use Rattle.rules.specs.declared.call.AccountCall.{AccountCall}
use Rattle.rules.specs.declared.call.Answer.{Answer}
use Rattle.refusals.specs.declared.refusal.Refusal.TheVariants.{Tables, NoAccount}
use Rattle.refusals.specs.Refusals.{number_of}
use Rattle.rules.specs.Settling.{house_settled, row_reflagged}
use Rattle.rules.specs.Stands.{Stand, Verdict, refused, granted, standing, books_in, rows_of, trades_of, cover_of, verdict, after_account, AtRest}

abbrev pub restriction_of : AccountRow → ℕ
restriction_of r = (if r.own then 1 else 0) + (if r.second then 2 else 0)

abbrev pub answer_of : ℕ → AccountRow → Answer
answer_of n r = record { number = n; restriction = restriction_of r; obligation = r.obligation; available = r.available; shortfall = r.shortfall }

abbrev pub blank_answer : ℕ → Answer
blank_answer n = record { number = n; restriction = 0; obligation = 0; available = 0; shortfall = 0 }

abbrev pub verdict_number : Verdict Book → ℕ
verdict_number (refused e) = number_of e
verdict_number (granted b) = 0

-- the figures are those of the record after the call
abbrev pub account_reply : Meaning → Stand → ℕ → AccountCall → Answer
account_reply m s i c =
    if nat_lt i (length (books_in s))
    then answer_of (verdict_number (verdict m s i c)) (slice_index_or (books_in (after_account m s i c)) i no_book).row
    else blank_answer (number_of NoAccount)

pub record Outcome : Type 0 where
  pub answer : Answer
  pub rows : List AccountRow
  pub trades : List TradeRow

-- tables that fail question 1 are answered 1 and left as they were
abbrev pub account_outcome : Meaning → MarketState → ℕ → List AccountRow → List TradeRow → ℕ → AccountCall → Outcome
account_outcome m k n rs ts i c =
    if tables_keep n rs ts
    then record { answer = account_reply m (standing k rs ts) i c; rows = rows_of (after_account m (standing k rs ts) i c); trades = trades_of (after_account m (standing k rs ts) i c) }
    else record { answer = blank_answer (number_of Tables); rows = rs; trades = ts }

-- what a call leaves of the record of a constituent that it does not name: all, but for the second flag at the restriction after it
abbrev pub left_alone : Bool → Bool → AccountRow → AccountRow
left_alone accepted restricted r = if accepted then row_reflagged restricted r else r

-- what a call on a constituent leaves of the house's record: settled at the cover after it, so that cash, lots and trades stay
abbrev pub house_left : Meaning → MarketState → Bool → ℕ → Book → AccountRow
house_left m k accepted cover b = if accepted then (house_settled m k cover b).row else b.row

pub record OthersLeft (m : Meaning) (k : MarketState) (n : ℕ) (rs us : List AccountRow) (ts vs : List TradeRow) (i : ℕ) (a : Answer) : Type 0 where
  -- every constituent but account i keeps its places, and its record but for the second flag
  pub constituents : (j : ℕ) → suc j < n → (suc j ≢ i)
      → (slice_index_or us (suc j) no_row ≡ left_alone (a.number == 0) (slice_index_or us 0 no_row).own (slice_index_or rs (suc j) no_row)) × (places_at vs (suc j) ≡ places_at ts (suc j))
  -- the house keeps its places, and is settled at the cover, unless account i is the house
  pub house : (0 ≢ i)
      → (slice_index_or us 0 no_row ≡ house_left m k (a.number == 0) (cover_of (standing k us vs)) (book (slice_index_or rs 0 no_row) (places_at ts 0))) × (places_at vs 0 ≡ places_at ts 0)

-- an account call, answered: the answer and both tables after are those of the outcome; the tables keep their limits as before,
-- and rest after an accepted call; they hold the stand that the rules make of the stand before;
-- and every account that the call does not name keeps its places, a constituent its record but for the second flag, and the
-- house is settled at the cover
pub record Answered (m : Meaning) (k : MarketState) (n : ℕ) (rs us : List AccountRow) (ts vs : List TradeRow) (i : ℕ) (c : AccountCall) (a : Answer) : Type 0 where
  pub answer : a ≡ (account_outcome m k n rs ts i c).answer
  pub rows : us ≡ (account_outcome m k n rs ts i c).rows
  pub trades : vs ≡ (account_outcome m k n rs ts i c).trades
  pub keeps : tables_keep n us vs ≡ tables_keep n rs ts
  pub rests : a.number ≡ 0 → AtRest m k us vs
  pub stands : tables_keep n rs ts ≡ true → standing k us vs ≡ after_account m (standing k rs ts) i c
  pub others : OthersLeft m k n rs us ts vs i a

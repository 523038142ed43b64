-- What a market call makes of the house and its accounts.
-- running: a trade that does not mature before a month. closed_up: trades, and empty places after them up to 64.
-- matured_out: a book without its trades of an earlier maturity, closed up in order.
-- new_month: the month that a call begins, if it begins one. aged_by, aged: what a market call changes in a book before it settles.
-- all_settled, after_market: the stand after an accepted market call, and after any.
-- market_answer, market_reply: an answer with the numbers of a market state, and the answer to a call on tables that keep their limits.
-- blank_market: an answer without figures.
-- MarketOutcome, market_outcome: the answer, the market state and both tables after a market call, whatever tables it brings.
-- MarketAnswered: all that a public market call promises.
use Rattle.std.specs.Prelude.{◌≡◌, ℕ, ◌-◌, Bool, true, if◌then◌else◌, List, ◌++◌, map, length, replicate, Some, None, filter, Option, nat_le}
use Rattle.models.specs.Meaning.{Meaning}
use Rattle.refusals.specs.declared.refusal.Refusal.TheVariants.{Tables}
use Rattle.refusals.specs.Refusals.{first_no, decided, number_of, result_number}
use Rattle.tables.specs.declared.row.AccountRow.{AccountRow}
use Rattle.tables.specs.declared.row.TradeRow.{TradeRow}
use Rattle.tables.specs.Books.{Book, book, standing_of}
use Rattle.tables.specs.Limits.{no_trade, tables_keep}
use Rattle.market.specs.declared.call.MarketCall.{MarketCall}
use Rattle.market.specs.declared.call.MarketCall.TheVariants.{Set, Price, StepUp, Averages, Thresholds, Volatility, Close, Month}
use Rattle.market.specs.declared.state.MarketState.{MarketState}
use Rattle.market.specs.Calls.{market_questions, market_changed}
use Rattle.rules.specs.declared.call.MarketAnswer.{MarketAnswer}
use Rattle.rules.specs.Rows.{with_trades}
use Rattle.rules.specs.Settling.{settled}
use Rattle.rules.specs.Stands.{Stand, standing, finish, rows_of, trades_of, AtRest}

abbrev pub running : ℕ → TradeRow → Bool
running month t = nat_le month t.maturity

abbrev pub closed_up : List TradeRow → List TradeRow
closed_up ts = ts ++ replicate (64 - length ts) no_trade

unfoldable pub matured_out : ℕ → Book → Book
matured_out month b =
    book (with_trades b.row (length (filter (running month) (standing_of b)))) (closed_up (filter (running month) (standing_of b)))

abbrev pub new_month : MarketCall → Option ℕ
new_month (Set s) = None
new_month (Price q) = None
new_month (StepUp n) = None
new_month (Averages family a) = None
new_month (Thresholds family t) = None
new_month (Volatility c) = None
new_month Close = None
new_month (Month month) = Some month

abbrev pub aged_by : Option ℕ → Book → Book
aged_by None b = b
aged_by (Some month) b = matured_out month b

abbrev pub aged : MarketCall → Book → Book
aged c b = aged_by (new_month c) b

-- every constituent settles in market state k; then come cover and house, and last all second flags
abbrev pub all_settled : Meaning → MarketState → MarketCall → Stand → Stand
all_settled m k c s =
    finish m (record { market = k; house = aged c s.house; constituents = map (λ (b : Book). settled m k 0 (aged c b)) s.constituents })

abbrev pub after_market : Meaning → Stand → MarketCall → Stand
after_market m s c =
    decided (first_no (market_questions m.sets s.market c)) (all_settled m (market_changed c s.market) c s) (λ e. s)

abbrev pub market_answer : ℕ → MarketState → MarketAnswer
market_answer n k = record { number = n; set = k.day.set; month = k.day.month; overnight = k.overnight.volatility; forward = k.forward.volatility }

abbrev pub blank_market : ℕ → MarketAnswer
blank_market n = record { number = n; month = 0; set = 0; overnight = 0; forward = 0 }

abbrev pub market_reply : Meaning → Stand → MarketCall → MarketAnswer
market_reply m s c = market_answer (result_number (first_no (market_questions m.sets s.market c))) (after_market m s c).market

pub record MarketOutcome : Type 0 where
  pub answer : MarketAnswer
  pub market : MarketState
  pub rows : List AccountRow
  pub trades : List TradeRow

-- tables that fail question 1 are answered 1, and all is left as it was
abbrev pub market_outcome : Meaning → MarketState → ℕ → List AccountRow → List TradeRow → MarketCall → MarketOutcome
market_outcome m k n rs ts c =
    if tables_keep n rs ts
    then record { answer = market_reply m (standing k rs ts) c; market = (after_market m (standing k rs ts) c).market; rows = rows_of (after_market m (standing k rs ts) c); trades = trades_of (after_market m (standing k rs ts) c) }
    else record { answer = market_answer (number_of Tables) k; market = k; rows = rs; trades = ts }

-- a market call, answered: answer, market and both tables after are those of the outcome; the tables keep their limits as before, and rest
-- after an accepted call; they hold the stand that the rules make of the stand before
pub record MarketAnswered (m : Meaning) (k l : MarketState) (n : ℕ) (rs us : List AccountRow) (ts vs : List TradeRow) (c : MarketCall) (a : MarketAnswer) : Type 0 where
  pub answer : a ≡ (market_outcome m k n rs ts c).answer
  pub market : l ≡ (market_outcome m k n rs ts c).market
  pub rows : us ≡ (market_outcome m k n rs ts c).rows
  pub trades : vs ≡ (market_outcome m k n rs ts c).trades
  pub keeps : tables_keep n us vs ≡ tables_keep n rs ts
  pub rests : a.number ≡ 0 → AtRest m l us vs
  pub stands : tables_keep n rs ts ≡ true → standing l us vs ≡ after_market m (standing k rs ts) c

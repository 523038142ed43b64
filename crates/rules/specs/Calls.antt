-- Any call, on any tables.
-- Outcome, outcome: what a call answers, and what it leaves: the market state and both tables.
-- reply_number: the number in an answer.
use Rattle.std.specs.Prelude.{ℕ, List}
use Rattle.models.specs.Meaning.{Meaning}
use Rattle.tables.specs.declared.row.AccountRow.{AccountRow}
use Rattle.tables.specs.declared.row.TradeRow.{TradeRow}
use Rattle.market.specs.declared.state.MarketState.{MarketState}
use Rattle.rules.specs.declared.call.Call.{Call}
use Rattle.rules.specs.declared.call.Call.TheVariants.{Account, Market}
use Rattle.rules.specs.declared.call.Reply.{Reply}
use Rattle.rules.specs.declared.call.Reply.TheVariants.{Account as AccountReply, Market as MarketReply}
use Rattle.rules.specs.Outcomes.{account_outcome}
use Rattle.rules.specs.MarketCalls.{market_outcome}

pub record Outcome : Type 0 where
  pub reply : Reply
  pub market : MarketState
  pub rows : List AccountRow
  pub trades : List TradeRow

-- a call on an account leaves the market as it is
abbrev pub outcome : Meaning → MarketState → ℕ → List AccountRow → List TradeRow → Call → Outcome
outcome m k n rs ts (Account c) = record { reply = AccountReply (account_outcome m k n rs ts c.account c.call).answer; market = k; rows = (account_outcome m k n rs ts c.account c.call).rows; trades = (account_outcome m k n rs ts c.account c.call).trades }
outcome m k n rs ts (Market c) = record { reply = MarketReply (market_outcome m k n rs ts c).answer; market = (market_outcome m k n rs ts c).market; rows = (market_outcome m k n rs ts c).rows; trades = (market_outcome m k n rs ts c).trades }

abbrev pub reply_number : Reply → ℕ
reply_number (AccountReply a) = a.number
reply_number (MarketReply a) = a.number

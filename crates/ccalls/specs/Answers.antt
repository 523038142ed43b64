-- What a call of a caller in C answers and leaves.
-- RowsAnswered: any call, on any records: what the engine promises of the rows that they stand for.
-- HouseAnswered: a market call on a house.
-- AccountAnswered, MarketAnswered: a call on memory that may hold no house: then 255, and nothing is changed.
use Rattle.std.specs.Prelude.{◌≡◌, ◌≢◌, ℕ, true, false, List}
use Rattle.models.specs.Meaning.{Meaning}
use Rattle.tables.specs.declared.row.TradeRow.{TradeRow}
use Rattle.market.specs.declared.call.MarketCall.{MarketCall}
use Rattle.market.specs.declared.state.MarketState.{MarketState}
use Rattle.rules.specs.declared.call.AccountCall.{AccountCall}
use Rattle.rules.specs.declared.call.Answer.{Answer}
use Rattle.rules.specs.declared.call.Call.{Call}
use Rattle.rules.specs.declared.call.Call.TheVariants.{Account, Market}
use Rattle.rules.specs.declared.call.MarketAnswer.{MarketAnswer}
use Rattle.rules.specs.declared.call.Reply.{Reply}
use Rattle.rules.specs.declared.call.Reply.TheVariants.{Account as AccountReply, Market as MarketReply}
use Rattle.rules.specs.Outcomes.{blank_answer}
use Rattle.rules.specs.MarketCalls.{blank_market}
use Rattle.isolation.specs.Runs.{wrong_reply}
use Rattle.engine.specs.Promises.{AnswersCall}
use Rattle.crows.specs.declared.row.CAccount.{CAccount}
use Rattle.crows.specs.declared.row.CHouse.{CHouse}
use Rattle.crows.specs.Rows.{accounts_of, accounts_fit, state_of, house_keeps}

-- n accounts; market k, records rs and places ts before, l, us and vs after; the call c was answered a
pub record RowsAnswered (m : Meaning) (k l : MarketState) (n : ℕ) (rs us : List CAccount) (ts vs : List TradeRow) (c : Call) (a : Reply) : Type 0 where
  -- records whose flags are flags, and no more than a house may have: what the engine promises of the rows that they stand for
  pub right : accounts_fit rs ≡ true → AnswersCall m k l n (accounts_of rs) (accounts_of us) ts vs c a
  pub fit : accounts_fit rs ≡ true → accounts_fit us ≡ true
  -- any other records fail question 1, and all is left as it was
  pub wrong : accounts_fit rs ≡ false → (a ≡ wrong_reply k c) × (l ≡ k) × (us ≡ rs) × (vs ≡ ts)

-- a market call on the house h, which became h'
pub record HouseAnswered (m : Meaning) (h h' : CHouse) (rs us : List CAccount) (ts vs : List TradeRow) (c : MarketCall) (a : MarketAnswer) : Type 0 where
  pub rows : RowsAnswered m (state_of h) (state_of h') h.accounts rs us ts vs (Market c) (MarketReply a)
  pub accounts : h'.accounts ≡ h.accounts
  pub keeps : house_keeps h' ≡ true
  -- a refused call leaves every number of the house
  pub refused : a.number ≢ 0 → h' ≡ h

-- an account call c on account i, with the memory h of a house, which may hold none
pub record AccountAnswered (m : Meaning) (h : CHouse) (rs us : List CAccount) (ts vs : List TradeRow) (i : ℕ) (c : AccountCall) (a : Answer) : Type 0 where
  pub answered : house_keeps h ≡ true → RowsAnswered m (state_of h) (state_of h) h.accounts rs us ts vs (Account (record { account = i; call = c })) (AccountReply a)
  pub corrupt : house_keeps h ≡ false → (a ≡ blank_answer 255) × (us ≡ rs) × (vs ≡ ts)

-- a market call c likewise, with the memory h' after it
pub record MarketAnswered (m : Meaning) (h h' : CHouse) (rs us : List CAccount) (ts vs : List TradeRow) (c : MarketCall) (a : MarketAnswer) : Type 0 where
  pub answered : house_keeps h ≡ true → HouseAnswered m h h' rs us ts vs c a
  pub corrupt : house_keeps h ≡ false → (a ≡ blank_market 255) × (h' ≡ h) × (us ≡ rs) × (vs ≡ ts)

-- A refused market call leaves the market.
use Rattle.std.proofs.Common.{◌≡◌, ℕ, Bool, true, false, List, refl, ap, ◌∙◌}
use Rattle.std.specs.Prelude.{◌≢◌, Ok, Err, Result, if◌then◌else◌}
use Rattle.models.specs.Meaning.{Meaning}
use Rattle.refusals.specs.declared.refusal.Refusal.{Refusal}
use Rattle.refusals.specs.declared.refusal.Refusal.TheVariants.{Tables}
use Rattle.refusals.specs.Refusals.{decided, number_of, result_number}
use Rattle.tables.specs.declared.row.AccountRow.{AccountRow}
use Rattle.tables.specs.declared.row.TradeRow.{TradeRow}
use Rattle.tables.specs.Limits.{tables_keep}
use Rattle.market.specs.declared.call.MarketCall.{MarketCall}
use Rattle.market.specs.declared.state.MarketState.{MarketState}
use Rattle.rules.specs.declared.call.Call.TheVariants.{Market}
use Rattle.rules.specs.declared.call.MarketAnswer.{MarketAnswer}
use Rattle.rules.specs.declared.call.Reply.TheVariants.{Market as MarketReply}
use Rattle.rules.specs.Stands.{Stand, standing, rows_of, trades_of}
use Rattle.rules.specs.MarketCalls.{after_market, market_answer, market_reply, MarketOutcome}
use Rattle.rules.specs.Calls.{reply_number}
use Rattle.engine.specs.Promises.{AnswersCall}
use Rattle.crows.specs.declared.row.CAccount.{CAccount}
use Rattle.crows.specs.Rows.{accounts_of, accounts_fit}
use Rattle.ccalls.specs.Answers.{RowsAnswered}

by_answer : (r : Result (Unit {0}) Refusal) (t s : Stand) → result_number r ≢ 0 → (decided r t (λ (e : Refusal). s)).market ≡ s.market
by_answer (Ok done) t s not = absurd (not refl)
by_answer (Err e) t s not = refl

module _ (m : Meaning) (k : MarketState) (n : ℕ) (rs : List AccountRow) (ts : List TradeRow) (c : MarketCall) where
  abbrev out : Bool → MarketOutcome
  out b =
      if b
      then record { answer = market_reply m (standing k rs ts) c; market = (after_market m (standing k rs ts) c).market; rows = rows_of (after_market m (standing k rs ts) c); trades = trades_of (after_market m (standing k rs ts) c) }
      else record { answer = market_answer (number_of Tables) k; market = k; rows = rs; trades = ts }

  by_tables : (b : Bool) → (out b).answer.number ≢ 0 → (out b).market ≡ k
  by_tables true not = by_answer _ _ _ not
  by_tables false not = refl

  engine_left : (l : MarketState) (us : List AccountRow) (vs : List TradeRow) (a : MarketAnswer) → AnswersCall m k l n rs us ts vs (Market c) (MarketReply a) → a.number ≢ 0 → l ≡ k
  engine_left l us vs a p not = p.market ∙ by_tables (tables_keep n rs ts) (λ e. not (ap reply_number p.replied ∙ e))

pub market_left : (m : Meaning) (k l : MarketState) (n : ℕ) (rs us : List CAccount) (ts vs : List TradeRow) (c : MarketCall) (a : MarketAnswer) → RowsAnswered m k l n rs us ts vs (Market c) (MarketReply a) → a.number ≢ 0 → l ≡ k
market_left m k l n rs us ts vs c a p not =
    let by : (b : Bool) → accounts_fit rs ≡ b → l ≡ k =
    λ b. elim b as (λ v. accounts_fit rs ≡ v → l ≡ k) [
      | true ↦ λ t. engine_left m k n (accounts_of rs) ts c l (accounts_of us) vs a (p.right t) not
      | false ↦ λ t. (p.wrong t).1
    ]
    in
    by (accounts_fit rs) refl

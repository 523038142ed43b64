-- One call's promises, out of those of an account call or a market call.
use Rattle.std.proofs.Common.{◌≡◌, ℕ, ◌≤◌, false, eqb, List, [], refl, ap, ◌∙◌, arith}
use Rattle.std.proofs.lemmas.Bool.{cond-true, cond-false, ne_eqb, and_left}
use Rattle.models.specs.Meaning.{Meaning}
use Rattle.tables.specs.declared.row.AccountRow.{AccountRow}
use Rattle.tables.specs.declared.row.TradeRow.{TradeRow}
use Rattle.tables.specs.Limits.{tables_keep}
use Rattle.market.specs.declared.call.MarketCall.{MarketCall}
use Rattle.market.specs.declared.state.MarketState.{MarketState}
use Rattle.rules.specs.declared.call.Answer.{Answer}
use Rattle.rules.specs.declared.call.Call.TheVariants.{Account, Market}
use Rattle.rules.specs.declared.call.MarketAnswer.{MarketAnswer}
use Rattle.rules.specs.declared.call.NamedCall.{NamedCall}
use Rattle.rules.specs.declared.call.Reply.TheVariants.{Account as AccountReply, Market as MarketReply}
use Rattle.rules.specs.Stands.{standing}
use Rattle.rules.specs.Outcomes.{Outcome, Answered}
use Rattle.rules.specs.MarketCalls.{MarketOutcome, MarketAnswered}
use Rattle.isolation.proofs.Law.{isolation}
use Rattle.engine.specs.Promises.{AnswersCall}
use Rattle.engine.proofs.Refused.{account_refused, market_refused}

module _ (m : Meaning) (k : MarketState) (n : ℕ) (some : 1 ≤ n) (rs us : List AccountRow) (ts vs : List TradeRow) where
  pub account_promised : (c : NamedCall) (a : Answer) → Answered m k n rs us ts vs c.account c.call a → AnswersCall m k k n rs us ts vs (Account c) (AccountReply a)
  account_promised c a p = record {
    replied = ap AccountReply p.answer;
    market = refl;
    rows = p.rows;
    trades = p.trades;
    keeps = p.keeps;
    rests = p.rests;
    refused = λ ne.
        let o = account_refused m k n some rs ts c.account c.call (λ nil. ne (ap (λ (x : Answer). x.number) p.answer ∙ nil)) in
        (refl, (p.rows ∙ o.0), (p.trades ∙ o.1));
    others = p.others;
    right_is = λ h. ap AccountReply (p.answer ∙ ap (λ (o : Outcome). o.answer) (cond-true (tables_keep n rs ts) _ _ h));
    right_stands = p.stands;
    wrong_is = λ h qs xs. ap AccountReply (p.answer ∙ ap (λ (o : Outcome). o.answer) (cond-false (tables_keep n rs ts) _ _ h));
    wrong_stands = λ h qs xs. refl;
    isolated = isolation m;
  }

  pub market_promised : (l : MarketState) (c : MarketCall) (a : MarketAnswer) → MarketAnswered m k l n rs us ts vs c a → AnswersCall m k l n rs us ts vs (Market c) (MarketReply a)
  market_promised l c a p = record {
    replied = ap MarketReply p.answer;
    market = p.market;
    rows = p.rows;
    trades = p.trades;
    keeps = p.keeps;
    rests = p.rests;
    refused = λ ne.
        let o = market_refused m k n some rs ts c (λ nil. ne (ap (λ (x : MarketAnswer). x.number) p.answer ∙ nil)) in
        ((p.market ∙ o.0), (p.rows ∙ o.1), (p.trades ∙ o.2));
    others = tt;
    right_is = λ h. ap MarketReply (p.answer ∙ ap (λ (o : MarketOutcome). o.answer) (cond-true (tables_keep n rs ts) _ _ h));
    right_stands = p.stands;
    wrong_is = λ h qs xs. ap MarketReply (p.answer ∙ ap (λ (o : MarketOutcome). o.answer) (cond-false (tables_keep n rs ts) _ _ h));
    wrong_stands = λ h qs xs. ap (λ (x : MarketState). standing x qs xs) (p.market ∙ ap (λ (o : MarketOutcome). o.market) (cond-false (tables_keep n rs ts) _ _ h));
    isolated = isolation m;
  }

-- no tables at all fail question 1
pub none_fail : (n : ℕ) → 1 ≤ n → tables_keep n [] [] ≡ false
none_fail n some = and_left (eqb 0 n) _ (ne_eqb 0 n (λ e. omega arith))

use Rattle.std.proofs.Common.{◌≡◌, ℕ, refl, subst, ◌∙◌, rules}
use Rattle.market.specs.declared.state.MarketState.{MarketState}
use Rattle.rules.specs.declared.call.Call.TheVariants.{Market}
use Rattle.rules.specs.declared.call.Reply.{Reply}
use Rattle.rules.specs.declared.call.Reply.TheVariants.{Market as MarketReply}
use Rattle.crows.specs.Rows.{state_of}
use Rattle.ccalls.specs.Meanings.{model_meaning}
use Rattle.ccalls.specs.Answers.{RowsAnswered}
use Rattle.ccalls.proofs.Refused.{market_left}
use Rattle.ccalls.proofs.calls.answer_market.Goals as goal

pub returns-else-said-eq0 : goal.returns-else-said-eq0
returns-else-said-eq0 c =
    let m = model_meaning c.args.model in
    let k = c.in-Some.held.market.state in
    let l = c.answer_rows.new.house.market.state in
    let n = c.in-Some.held.accounts in
    let rs = c.args.records.now in
    let us = c.answer_rows.new.records in
    let ts = c.args.trades.now in
    let vs = c.answer_rows.new.trades in
    let d = c.args.call in
    let a = c.in-Market.said in
    let p : RowsAnswered m k l n rs us ts vs (Market d) (MarketReply a) = subst (λ (x : Reply). RowsAnswered m k l n rs us ts vs (Market d) x) c.in-Market.is c.answer_rows.ensures.answered in
    let now = c.in-Some.ensures.1.1 in
    let left : l ≡ state_of c.args.house.now = market_left m k l n rs us ts vs d a p c.if-said-eq0.false ∙ now in
    record {
      answered = λ h. record {
        rows =
            subst (λ (x : ℕ). RowsAnswered m (state_of c.args.house.now) (state_of c.args.house.now) x rs us ts vs (Market d) (MarketReply a)) c.in-Some.ensures.1.0
            (subst (λ (x : MarketState). RowsAnswered m (state_of c.args.house.now) x n rs us ts vs (Market d) (MarketReply a)) left
            (subst (λ (x : MarketState). RowsAnswered m x l n rs us ts vs (Market d) (MarketReply a)) now p));
        accounts = refl;
        keeps = h;
        refused = λ _. refl;
      };
      corrupt = λ h. search rules;
    }

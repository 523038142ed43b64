use Rattle.std.proofs.Common.{sym, refl, subst}
use Rattle.rules.specs.declared.call.Call.{Call}
use Rattle.rules.specs.declared.call.Reply.TheVariants.{Account as AccountReply, Market as MarketReply}
use Rattle.engine.specs.Promises.{AnswersCall}
use Rattle.engine.proofs.Promised.{account_promised, market_promised}
use Rattle.engine.proofs.answer.answer.Goals as goal

pub returns-in-Account : goal.returns-in-Account
returns-in-Account g c =
    let e = c.answer_account.ensures in
    let m = g.M.MarginModel.meaning c.args.model.now in
    let k = c.args.house.now.market.state in
    let n = c.args.house.now.accounts in
    let rs = c.args.records.now in
    let ts = c.args.trades.now in
    record {
      accounts = refl;
      answered = subst (λ (x : Call). AnswersCall m k k n rs c.answer_account.new.records ts c.answer_account.new.trades x (AccountReply c.answer_account.result)) (sym c.in-Account.is)
          (account_promised m k n c.args.house.now.some rs c.answer_account.new.records ts c.answer_account.new.trades c.in-Account.named c.answer_account.result (record { answer = e.answer; rows = e.rows; trades = e.trades; keeps = e.keeps; rests = e.rests; stands = e.stands; others = e.others }));
    }

pub returns-in-Market : goal.returns-in-Market
returns-in-Market g c =
    let m = g.M.MarginModel.meaning c.args.model.now in
    let k = c.args.house.now.market.state in
    let n = c.args.house.now.accounts in
    let rs = c.args.records.now in
    let ts = c.args.trades.now in
    let l = c.answer_market.new.house.market.state in
    record {
      accounts = c.answer_market.ensures.accounts;
      answered = subst (λ (x : Call). AnswersCall m k l n rs c.answer_market.new.records ts c.answer_market.new.trades x (MarketReply c.answer_market.result)) (sym c.in-Market.is)
          (market_promised m k n c.args.house.now.some rs c.answer_market.new.records ts c.answer_market.new.trades l c.in-Market.change c.answer_market.result c.answer_market.ensures.answered);
    }

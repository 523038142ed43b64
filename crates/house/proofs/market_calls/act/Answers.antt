use Rattle.std.proofs.Common.{◌≡◌, ℕ, Ok, Err, Result, sym, refl, ap, ◌∙◌}
use Rattle.refusals.specs.declared.refusal.Refusal.{Refusal}
use Rattle.refusals.specs.Refusals.{first_no, decided}
use Rattle.market.specs.Calls.{market_questions, market_changed}
use Rattle.house.proofs.Announced.{market_refused, market_granted}
use Rattle.house.proofs.market_calls.act.Goals as goal

pub returns-in-Err-clause-rows : goal.returns-in-Err-clause-rows
returns-in-Err-clause-rows g c =
    let m = g.M.MarginModel.meaning c.args.model.now in
    let k = c.args.house.now.market.state in
    let asked : first_no (market_questions m.sets k c.args.call) ≡ Err c.in-Err.refusal =
    ap (λ (x : ℕ). first_no (market_questions x k c.args.call)) (sym c.sets.ensures) ∙ sym c.take.ensures.answer ∙ c.in-Err.is in
    (market_refused m k c.args.house.now.accounts c.args.records.now c.args.trades.now c.args.call c.args.house.now.some c.requires c.in-Err.refusal asked).2

pub returns-in-Err-clause-trades : goal.returns-in-Err-clause-trades
returns-in-Err-clause-trades g c =
    let m = g.M.MarginModel.meaning c.args.model.now in
    let k = c.args.house.now.market.state in
    let asked : first_no (market_questions m.sets k c.args.call) ≡ Err c.in-Err.refusal =
    ap (λ (x : ℕ). first_no (market_questions x k c.args.call)) (sym c.sets.ensures) ∙ sym c.take.ensures.answer ∙ c.in-Err.is in
    (market_refused m k c.args.house.now.accounts c.args.records.now c.args.trades.now c.args.call c.args.house.now.some c.requires c.in-Err.refusal asked).3

pub returns-in-Ok : goal.returns-in-Ok
returns-in-Ok g c =
    let m = g.M.MarginModel.meaning c.args.model.now in
    let k = c.args.house.now.market.state in
    let n = c.args.house.now.accounts in
    let rs = c.args.records.now in
    let ts = c.args.trades.now in
    let was = sym c.take.ensures.answer ∙ c.in-Ok.is in
    let asked : first_no (market_questions m.sets k c.args.call) ≡ Ok tt =
    ap (λ (x : ℕ). first_no (market_questions x k c.args.call)) (sym c.sets.ensures) ∙ was in
    let changed : c.take.new.self.state ≡ market_changed c.args.call k =
    c.take.ensures.state ∙ ap (λ (r : Result (Unit {0}) Refusal). decided r (market_changed c.args.call k) (λ x. k)) was in
    let o = market_granted m k n rs ts c.args.call c.args.house.now.some c.requires c.take.new.self.state c.age.new.records c.settle_constituents.new.records c.finish_settling.new.records c.age.new.trades
    asked changed c.age.ensures.books c.settle_constituents.ensures.books c.settle_constituents.ensures.keeps c.finish_settling.ensures.rows in
    record {
      accounts = refl;
      answer = c.answered-in-Ok.ensures ∙ o.0;
      market = o.1;
      rows = o.2;
      trades = o.3;
      keeps = c.finish_settling.ensures.keeps;
      rests = λ nil. c.finish_settling.ensures.rests;
      stands = o.4;
    }

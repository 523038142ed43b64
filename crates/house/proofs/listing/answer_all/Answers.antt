use Rattle.std.proofs.Common.{◌<◌, length, take, arith, length-take}
use Rattle.tables.specs.Limits.{no_trade}
use Rattle.rules.specs.declared.call.AccountCall.TheVariants.{Trade}
use Rattle.rules.specs.declared.call.NamedCall.{NamedCall}
use Rattle.rules.specs.Runs.{Lent}
use Rattle.house.proofs.Runs.{rows_more, trades_more, answers_more, rest_more}
use Rattle.house.proofs.listing.answer_all.Goals as goal

-- what `get_or` gives past the end
no_call : NamedCall
no_call = record { account = 0; call = Trade no_trade }

pub loop-i-preserved : goal.loop-i-preserved
unfolding no_call
loop-i-preserved g c =
    let m = g.M.MarginModel.meaning c.args.model.now in
    let k = c.args.house.now.market.state in
    let n = c.args.house.now.accounts in
    let t : Lent = (c.args.records.now, c.args.trades.now) in
    let cs = take c.min-count.result c.args.calls.now in
    let i = c.loop-i.i in
    let e = c.answer_account-said.ensures in
    let lt : i < length cs = c.loop-i-test.true in
    let la : i < length c.loop-i.answers = omega (arith, c.min-count.ensures, lt, length-take c.min-count.result c.args.calls.now) in (
      rows_more m k n t cs i no_call c.loop-i.records c.answer_account-said.new.records c.loop-i.trades c.answer_account-said.new.trades c.answer_account-said.result lt c.loop-i.invariant.0 c.loop-i.invariant.1 e.answer e.rows e.trades,
      trades_more m k n t cs i no_call c.loop-i.records c.answer_account-said.new.records c.loop-i.trades c.answer_account-said.new.trades c.answer_account-said.result lt c.loop-i.invariant.0 c.loop-i.invariant.1 e.answer e.rows e.trades,
      answers_more m k n t cs i no_call c.loop-i.records c.answer_account-said.new.records c.loop-i.trades c.answer_account-said.new.trades c.answer_account-said.result lt c.loop-i.invariant.0 c.loop-i.invariant.1 e.answer e.rows e.trades c.loop-i.answers la c.loop-i.invariant.2,
      rest_more c.loop-i.answers c.args.answers.now i c.answer_account-said.result c.loop-i.invariant.3,
    )

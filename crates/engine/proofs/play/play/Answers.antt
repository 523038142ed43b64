use Rattle.std.proofs.Common.{◌≡◌, ◌≤◌, Ok, sym, ◌∙◌}
use Rattle.refusals.specs.Refusals.{first_no}
use Rattle.rules.specs.Opening.{opening_questions}
use Rattle.opening.proofs.Opened.{allowed}
use Rattle.engine.proofs.Played.{day_from}
use Rattle.engine.proofs.play.play.Goals as goal

pub returns : goal.returns
returns g c =
    let m = g.M.MarginModel.meaning c.args.model.now in
    let n = c.args.accounts in
    let e = c.in_ok-open_house.ensures in
    let p = c.replay.ensures in
    let o = c.open_house.new in
    let u = c.replay.new in
    let yes' : first_no (opening_questions n c.args.month c.args.records.now c.args.trades.now) ≡ Ok tt = sym e.answer in
    let some : 1 ≤ n = (allowed n c.args.month c.args.records.now c.args.trades.now yes').some in (
      yes',
      p.accounts ∙ e.accounts,
      day_from m c.args.month n o.house.market.state u.house.market.state o.house.accounts o.records u.records o.trades u.trades c.args.events.now c.args.answers.now u.answers c.replay.result
          some e.market e.accounts e.rows e.trades e.keeps p.replays,
    )

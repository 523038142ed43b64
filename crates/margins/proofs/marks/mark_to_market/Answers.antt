use Rattle.std.proofs.Common.{ap, ◌∙◌, arith}
use Rattle.tables.specs.Limits.{no_trade}
use Rattle.risk.proofs.Apart.{standing}
use Rattle.risk.proofs.Signs.{adds_signed}
use Rattle.margins.specs.Marks.{mark_of}
use Rattle.margins.proofs.marks.mark_to_market.Goals as goal

pub loop-trade-preserved : goal.loop-trade-preserved
loop-trade-preserved g c =
    let ts = c.rows-trade-items.result.now in
    let mark = mark_of (g.M.MarginModel.meaning c.args.quotes.now.model.now) c.args.quotes.now.day in
    let step = adds_signed mark 20000000000000 ts c.loop-trade.trade-index no_trade _ c.mark-sum.result (omega arith) (standing ts c.rows-trade-items.ensures.keeps).few c.loop-trade-test.true c.loop-trade.invariant.1 c.loop-trade.invariant.2 (c.mark-sum.ensures.value ∙ ap mark c.new.ensures) c.mark-sum.ensures.bound in
    (omega arith, step.0, step.1)

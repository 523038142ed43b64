use Rattle.std.proofs.Common.{◌∙◌}
use Rattle.risk.specs.declared.grouping.Grouping.TheVariants.{ByResidual, ByHalfYear}
use Rattle.risk.proofs.Alones.{lone_of}
use Rattle.risk.proofs.quotes.Quotes.sums.Goals as goal

pub returns-in-Some-clause-residuals : goal.returns-in-Some-clause-residuals
returns-in-Some-clause-residuals g c =
    c.netted_risk-whole.ensures ∙ lone_of (g.M.MarginModel.meaning c.args.self.now.model.now) c.args.self.now.day ByResidual c.in-Some.first.now c.args.trades.trades.now c.args.trades.stand c.in-Some.ensures

pub returns-in-Some-clause-halfyears : goal.returns-in-Some-clause-halfyears
returns-in-Some-clause-halfyears g c =
    c.netted_risk-whole.ensures ∙ lone_of (g.M.MarginModel.meaning c.args.self.now.model.now) c.args.self.now.day ByHalfYear c.in-Some.first.now c.args.trades.trades.now c.args.trades.stand c.in-Some.ensures

use Rattle.std.proofs.Common.{◌≡◌, filter, refl, sym, ap, ◌∙◌, arith}
use Rattle.risk.specs.declared.grouping.Grouping.TheVariants.{ByResidual}
use Rattle.risk.specs.Groups.{key_of, in_group, group_trades}
use Rattle.risk.specs.Losses.{var_of}
use Rattle.risk.proofs.Alones.{known_first, known_all, group_none}
use Rattle.risk.proofs.quotes.Quotes.residual_risks.Goals as goal

pub loop-trade-init : goal.loop-trade-init
loop-trade-init g c =
    (omega arith, refl, λ k. known_first (key_of ByResidual c.args.self.now.day) (λ q. var_of (g.M.MarginModel.meaning c.args.self.now.model.now) c.args.self.now.day (group_trades ByResidual c.args.self.now.day q c.args.trades.trades.now)) 121 k)

pub returns : goal.returns
returns g c = λ k.
    let same : c.rows-trade-items.result.now ≡ c.args.trades.trades.now = c.rows-trade-items.ensures.value in
    known_all (key_of ByResidual c.args.self.now.day) (λ q. var_of (g.M.MarginModel.meaning c.args.self.now.model.now) c.args.self.now.day (group_trades ByResidual c.args.self.now.day q c.args.trades.trades.now))
    c.loop-trade.risks c.rows-trade-items.result.now c.loop-trade.trade-index k c.loop-trade-test.false
    (λ none. group_none (g.M.MarginModel.meaning c.args.self.now.model.now) c.args.self.now.day ByResidual c.args.trades.trades.now k (sym (ap (filter (in_group ByResidual c.args.self.now.day k)) same) ∙ none)) (c.loop-trade.invariant.2 k)

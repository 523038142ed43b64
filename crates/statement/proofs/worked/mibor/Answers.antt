use Rattle.std.proofs.Common.{ap, ap₂, ◌∙◌}
use Rattle.tables.specs.declared.row.AccountRow.{AccountRow}
use Rattle.market.specs.declared.state.MarketState.{MarketState}
use Rattle.margins.specs.Figures.{figures_of}
use Rattle.margins.specs.declared.figures.Figures.{Figures}
use Rattle.statement.proofs.Figures.{at_month, opened_at}
use Rattle.statement.proofs.worked.mibor.Goals as goal

pub returns : goal.returns
returns g c =
    let m = g.M.MarginModel.meaning c.args.model.now in
    ap (λ (f : Figures). f.overnight.first)
    (c.in_ok-figures_of.ensures
    ∙ ap₂ (λ (k : MarketState) (r : AccountRow). figures_of m k r c.args.trades.now)
    (ap (λ (k : MarketState). at_month k 300) c.empty-input.ensures.state ∙ opened_at 300) c.empty-input.ensures.row)

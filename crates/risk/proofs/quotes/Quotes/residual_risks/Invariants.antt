use Rattle.std.proofs.Common.{ℕ, ◌≡◌, ◌≤◌, length, take}
use Rattle.risk.specs.declared.grouping.Grouping.TheVariants.{ByResidual}
use Rattle.risk.specs.Groups.{key_of, group_trades}
use Rattle.risk.specs.Losses.{var_of}
use Rattle.risk.proofs.Alones.{Known}
use Rattle.risk.proofs.quotes.Quotes.residual_risks.Given as goal

abbrev pub invariant-loop-trade : goal.invariant-loop-trade
invariant-loop-trade g l =
    (l.trade-index ≤ length l.trade-items)
    × (length l.risks ≡ 121)
    × ((k : ℕ) → Known (key_of ByResidual l.self.day) (λ q. var_of (g.M.MarginModel.meaning l.self.model.now) l.self.day (group_trades ByResidual l.self.day q l.trades.trades.now)) l.risks (take l.trade-index l.trade-items) k)

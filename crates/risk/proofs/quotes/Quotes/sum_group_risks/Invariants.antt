use Rattle.std.proofs.Common.{◌≡◌, ◌≤◌, length}
use Rattle.risk.specs.Groups.{group_trades}
use Rattle.tables.specs.Numbers.{sum_below}
use Rattle.risk.specs.Losses.{var_of}
use Rattle.risk.proofs.quotes.Quotes.sum_group_risks.Given as goal

abbrev pub invariant-loop-risk : goal.invariant-loop-risk
invariant-loop-risk g l = (l.risk-index ≤ length l.risk-items) × (l.sum ≡ sum_below (λ k. var_of (g.M.MarginModel.meaning l.self.model.now) l.self.day (group_trades l.fn.grouping l.self.day k l.trades.trades.now)) l.risk-index)

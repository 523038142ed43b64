use Rattle.std.proofs.Common.{ℕ, ◌≡◌, ◌<◌, ◌≤◌, length, get_or, take, pos}
use Rattle.risk.specs.declared.grouping.Grouping.TheVariants.{ByHalfYear}
use Rattle.risk.specs.Groups.{key_of, group_trades}
use Rattle.risk.specs.Losses.{loss_of, var_of}
use Rattle.risk.proofs.Alones.{Known}
use Rattle.risk.proofs.Parts.{done_trades}
use Rattle.risk.proofs.quotes.Quotes.buckets.Given as goal

abbrev pub invariant-loop-trade : goal.invariant-loop-trade
invariant-loop-trade g l =
    (l.trade-index ≤ length l.trade-items)
    × (length l.risks ≡ 121)
    × ((k : ℕ) → Known (key_of ByHalfYear l.self.day) (λ q. var_of (g.M.MarginModel.meaning l.self.model.now) l.self.day (group_trades ByHalfYear l.self.day q l.trades.trades.now)) l.risks (take l.trade-index l.trade-items) k)
    × ((j : ℕ) → j < length l.all → get_or l.all j (pos 0) ≡ loss_of (g.M.MarginModel.meaning l.self.model.now) l.self.day j (done_trades (g.M.MarginModel.meaning l.self.model.now) l.self.day ByHalfYear l.trades.trades.now l.risks))

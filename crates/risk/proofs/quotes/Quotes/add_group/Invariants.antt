use Rattle.std.proofs.Common.{◌≡◌, ℕ, ◌<◌, ◌≤◌, length, get_or, take, pos, ◌+ℤ◌}
use Rattle.risk.specs.Losses.{loss_of}
use Rattle.risk.proofs.quotes.Quotes.add_group.Given as goal

abbrev pub invariant-loop-trade : goal.invariant-loop-trade
invariant-loop-trade g l =
    (l.trade-index ≤ length l.trade-items)
    × ((j : ℕ) → j < length l.losses → get_or l.losses j (pos 0) ≡ get_or l.initial.losses j (pos 0) +ℤ loss_of (g.M.MarginModel.meaning l.self.model.now) l.self.day j (take l.trade-index l.trade-items))

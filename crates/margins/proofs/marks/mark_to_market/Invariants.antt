use Rattle.std.proofs.Common.{◌≡◌, ◌*◌, ◌≤◌, length, take, nat_abs}
use Rattle.risk.specs.Signs.{signed_sum}
use Rattle.margins.specs.Marks.{mark_of}
use Rattle.margins.proofs.marks.mark_to_market.Given as goal

abbrev pub invariant-loop-trade : goal.invariant-loop-trade
invariant-loop-trade g l =
    (l.trade-index ≤ length l.trade-items) × (l.sum ≡ signed_sum (mark_of (g.M.MarginModel.meaning l.quotes.model.now) l.quotes.day) (take l.trade-index l.trade-items)) × (nat_abs l.sum ≤ l.trade-index * 20000000000000)

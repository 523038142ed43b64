use Rattle.std.proofs.Common.{◌≡◌, ◌*◌, ◌≤◌, length, take, nat_abs}
use Rattle.risk.specs.Signs.{signed_sum}
use Rattle.risk.specs.Initial.{weight_of}
use Rattle.risk.proofs.initial.minimum_margin.Given as goal

abbrev pub invariant-loop-trade : goal.invariant-loop-trade
invariant-loop-trade l =
    (l.trade-index ≤ length l.trade-items) × (l.sum ≡ signed_sum (weight_of l.day) (take l.trade-index l.trade-items)) × (nat_abs l.sum ≤ l.trade-index * 2000000000000)

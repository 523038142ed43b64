use Rattle.std.proofs.Common.{◌≡◌, ◌≤◌, length, take, filter}
use Rattle.risk.specs.Groups.{in_group}
use Rattle.risk.proofs.gather.gather_standing.Given as goal

abbrev pub invariant-loop-trade : goal.invariant-loop-trade
invariant-loop-trade l =
    (l.count ≤ l.trade-index) × (l.trade-index ≤ length l.trade-items) × (take l.count l.room ≡ filter (in_group l.grouping l.day l.key) (take l.trade-index l.trade-items))

use Rattle.std.proofs.Common.{◌≡◌, ℕ, ◌<◌, get_or, pos, neg_ℤ}
use Rattle.risk.proofs.losses.write_negated.Given as goal

abbrev pub invariant-loop-scenario : goal.invariant-loop-scenario
invariant-loop-scenario l = (k : ℕ) → k < l.scenario → get_or l.room k (pos 0) ≡ neg_ℤ (get_or l.row k (pos 0))

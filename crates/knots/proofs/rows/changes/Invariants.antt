use Rattle.std.proofs.Common.{◌≡◌, ℕ, ◌<◌, get_or, pos, ◌*ℤ◌}
use Rattle.knots.specs.Interpolation.{floor}
use Rattle.knots.specs.KnotTable.{shock_at}
use Rattle.knots.proofs.rows.changes.Given as goal

abbrev pub invariant-loop-scenario : goal.invariant-loop-scenario
invariant-loop-scenario l =
    (k : ℕ) → k < l.scenario → get_or l.room k (pos 0) ≡ floor (pos l.tick *ℤ shock_at l.shocks l.row l.runs k l.residual) 1000

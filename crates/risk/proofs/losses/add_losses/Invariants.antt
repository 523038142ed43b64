use Rattle.std.proofs.Common.{◌≡◌, ℕ, ◌<◌, ◌≤◌, get_or, pos, ◌+ℤ◌}
use Rattle.risk.proofs.losses.add_losses.Given as goal

abbrev pub invariant-loop-scenario : goal.invariant-loop-scenario
invariant-loop-scenario l =
    ((k : ℕ) → k < l.scenario → get_or l.all k (pos 0) ≡ get_or l.initial.all k (pos 0) +ℤ get_or l.losses k (pos 0))
    × ((k : ℕ) → l.scenario ≤ k → get_or l.all k (pos 0) ≡ get_or l.initial.all k (pos 0))

use Rattle.std.proofs.Common.{◌≡◌, ℕ, ◌<◌, ◌≤◌, get_or, pos, ◌+ℤ◌, ◌*ℤ◌}
use Rattle.risk.proofs.adding.add_each.Given as goal

abbrev pub invariant-loop-scenario : goal.invariant-loop-scenario
invariant-loop-scenario l =
    ((j : ℕ) → j < l.scenario → get_or l.losses j (pos 0) ≡ get_or l.initial.losses j (pos 0) +ℤ l.fn.weight *ℤ get_or l.row j (pos 0))
    × ((j : ℕ) → l.scenario ≤ j → get_or l.losses j (pos 0) ≡ get_or l.initial.losses j (pos 0))

use Rattle.std.proofs.Common.{◌≡◌, ℕ, ◌*◌, ◌<◌, ◌≤◌, get_or, pos, ◌+ℤ◌, ◌*ℤ◌}
use Rattle.risk.proofs.adding.add_row.Given as goal

abbrev pub invariant-loop-four : goal.invariant-loop-four
invariant-loop-four l =
    ((j : ℕ) → j < 4 * l.four → get_or l.losses j (pos 0) ≡ get_or l.initial.losses j (pos 0) +ℤ l.fn.weight *ℤ get_or l.row j (pos 0))
    × ((j : ℕ) → 4 * l.four ≤ j → get_or l.losses j (pos 0) ≡ get_or l.initial.losses j (pos 0))

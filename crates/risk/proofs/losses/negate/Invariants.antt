use Rattle.std.proofs.Common.{◌≡◌, ℕ, ◌<◌, ◌≤◌, get_or, pos, neg_ℤ}
use Rattle.risk.proofs.losses.negate.Given as goal

abbrev pub invariant-loop-change : goal.invariant-loop-change
invariant-loop-change l =
    ((k : ℕ) → k < l.change-index → get_or l.changes k (pos 0) ≡ neg_ℤ (get_or l.initial.changes k (pos 0)))
    × ((k : ℕ) → l.change-index ≤ k → get_or l.changes k (pos 0) ≡ get_or l.initial.changes k (pos 0))

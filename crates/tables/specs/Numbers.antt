-- Sums and rounding.
-- sum_below f n: f 0 + f 1 + .. + f (n - 1).
-- rounded_up a b: the quotient a / b, rounded up. RoundsUp: it is the least number that covers the quotient.
use Rattle.std.specs.Prelude.{ℕ, zero, suc, ◌+◌, ◌*◌, ◌/◌, ◌%◌, ◌≤◌, min}

unfoldable pub sum_below : (ℕ → ℕ) → ℕ → ℕ
sum_below f zero = 0
sum_below f (suc n) = sum_below f n + f n

abbrev pub rounded_up : ℕ → ℕ → ℕ
rounded_up a b = a / b + min 1 (a % b)

abbrev pub RoundsUp : Type 0
RoundsUp = (a b q : ℕ) → 1 ≤ b → (a ≤ rounded_up a b * b) × (a ≤ q * b → rounded_up a b ≤ q)

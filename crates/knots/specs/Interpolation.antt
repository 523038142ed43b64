-- Values between two knots, rounded down. Assumes nothing.
--   floor          a quotient rounded down, also below zero
--   RoundedDown    what it means of a quotient that it is rounded down
--   interpolated   from low towards high, t parts of d
--   value_at       the value of a residual whose neighbouring knots have these places and values
--   Between        a value between low and high, whichever of them is the larger
--   Interpolates   the law that the values of all residuals keep
use Rattle.std.specs.Prelude.{◌≡◌, ℕ, ◌+◌, ◌-◌, ◌<◌, cond, ◌⊎◌, ℤ, pos, ◌+ℤ◌, ◌-ℤ◌, ◌*ℤ◌, ◌≤ℤ◌, ◌<ℤ◌, ◌==◌}
use Rattle.std.specs.Int.{int_div_euclid}
use Rattle.knots.specs.Knots.{knot}

abbrev pub floor : ℤ → ℕ → ℤ
floor z d = int_div_euclid z (pos d)

-- d times q is not above z, and d more is
abbrev pub RoundedDown : ℤ → ℕ → ℤ → Type 0
RoundedDown z d q = ((pos d *ℤ q) ≤ℤ z) × (z <ℤ ((pos d *ℤ q) +ℤ pos d))

abbrev pub interpolated : ℤ → ℤ → ℕ → ℕ → ℤ
interpolated low high t d = low +ℤ floor (pos t *ℤ (high -ℤ low)) d

abbrev pub value_at : ℤ → ℤ → ℕ → ℕ → ℕ → ℤ
value_at low high m p q = cond (p == q) low (interpolated low high (m - knot p) (knot q - knot p))

abbrev pub Between : ℤ → ℤ → ℤ → Type 0
Between low high v = ((low ≤ℤ v) × (v ≤ℤ high)) ⊎ ((high ≤ℤ v) × (v ≤ℤ low))

-- given is the value at each of the twelve knots, by its place, and value that of each residual
pub record Interpolates (given value : ℕ → ℤ) : Type 0 where
  -- at a knot it is the knot's
  pub on_knot : (i : ℕ) → i < 12 → value (knot i) ≡ given i
  -- between two knots a and b it is a's, and (difference × (m − a)) / (b − a), rounded down
  pub between : (i m : ℕ) → i < 11 → knot i < m → m < knot (i + 1)
      → value m ≡ given i +ℤ floor (pos (m - knot i) *ℤ (given (i + 1) -ℤ given i)) (knot (i + 1) - knot i)
  -- and lies between theirs
  pub inside : (i m : ℕ) → i < 11 → knot i < m → m < knot (i + 1) → Between (given i) (given (i + 1)) (value m)

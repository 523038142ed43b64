-- What a knot model says of each residual, by the numbers at its knots. Assumes nothing.
--   ByKnots   rates, tick values and shocks are interpolated; a change is shock × tick value / 1,000, rounded down
use Rattle.std.specs.Prelude.{◌≡◌, ℕ, ◌+◌, ◌*◌, ◌<◌, ◌≤◌, ℤ, pos, ◌*ℤ◌, slice_index, slice_index_or}
use Rattle.models.specs.Meaning.{Meaning}
use Rattle.models.specs.Tables.{Tables}
use Rattle.knots.specs.Interpolation.{floor, RoundedDown, Interpolates}
use Rattle.knots.specs.KnotTable.{row_at}

-- j is the model of these tables, the last of which are shocks
pub record ByKnots (t : Tables) (j : Meaning) : Type 0 where
  pub sets : j.sets ≡ t.sets
  pub scenarios : j.scenarios ≡ t.scenarios
  pub rates : (s b : ℕ) → s < t.sets → b < 4 → Interpolates (λ i. pos (slice_index t.rates (row_at s b + i))) (λ m. pos (j.rate s b m))
  pub ticks : (s b : ℕ) → s < t.sets → b < 4 → Interpolates (λ i. pos (slice_index t.ticks (row_at s b + i))) (λ m. pos (j.tick s b m))
  -- each residual has a shock of its own in a scenario k
  pub changes : (s b k : ℕ) → s < t.sets → b < 4 → k < t.scenarios
      → (shock : ℕ → ℤ) × (Interpolates (λ i. slice_index_or t.changes ((row_at s b + i) * t.scenarios + k) (pos 0)) shock
      × ((m : ℕ) → m ≤ 120 → j.change s b m k ≡ floor (pos (j.tick s b m) *ℤ shock m) 1000))
  -- and floor rounds down, also below zero
  pub rounding : (z : ℤ) (d : ℕ) → 1 ≤ d → RoundedDown z d (floor z d)

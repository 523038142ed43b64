-- The model that three tables of numbers at the knots are. Assumes nothing.
--   row_at               the place of a benchmark's first knot among the rates and among the tick values
--   number_at            the rate or tick value of a residual, in a row
--   shock_at             the shock of a residual in a scenario
--   size_at, change_at   the rate or tick value of a set, benchmark and residual, and the change there in a scenario
--   knot_table           the meaning of the tables
--   KnotsSound           the tables that may be a knot model: 48 cells a set, shocks up to 20,000 from 0
use Rattle.std.specs.Prelude.{ℕ, ◌+◌, ◌*◌, ◌&&◌, List, ℤ, pos, ◌*ℤ◌, nat_lt, slice_index, slice_index_or, unsigned_abs, if◌then◌else◌}
use Rattle.models.specs.Meaning.{Meaning, within}
use Rattle.models.specs.Tables.{Tables}
use Rattle.models.specs.Sound.{Sound}
use Rattle.knots.specs.Knots.{low_place, high_place}
use Rattle.knots.specs.Interpolation.{floor, value_at}

-- by set, then benchmark
abbrev pub row_at : ℕ → ℕ → ℕ
row_at s b = (s * 4 + b) * 12

-- in a row of one number for each knot
abbrev pub number_at : List ℕ → ℕ → ℕ → ℤ
number_at xs base m = value_at (pos (slice_index xs (base + low_place m))) (pos (slice_index xs (base + high_place m))) m (low_place m) (high_place m)

-- in a row of one shock for each knot and scenario
abbrev pub shock_at : List ℤ → ℕ → ℕ → ℕ → ℕ → ℤ
shock_at xs base runs j m =
    value_at (slice_index_or xs ((base + low_place m) * runs + j) (pos 0)) (slice_index_or xs ((base + high_place m) * runs + j) (pos 0)) m (low_place m) (high_place m)

abbrev pub size_at : List ℕ → ℕ → ℕ → ℕ → ℕ
size_at xs s b r = unsigned_abs (number_at xs (row_at s b) r)

abbrev pub change_at : Tables → ℕ → ℕ → ℕ → ℕ → ℤ
change_at t s b r j = floor (pos (size_at t.ticks s b r) *ℤ shock_at t.changes (row_at s b) t.scenarios j r) 1000

abbrev pub knot_table : Tables → Meaning
knot_table t = record {
  sets = t.sets;
  scenarios = t.scenarios;
  rate = λ s b r. if within t.sets s b r then size_at t.rates s b r else 0;
  tick = λ s b r. if within t.sets s b r then size_at t.ticks s b r else 0;
  change = λ s b r j. if within t.sets s b r && nat_lt j t.scenarios then change_at t s b r j else pos 0;
}

abbrev pub KnotsSound : Tables → Type 0
KnotsSound t = Sound 48 20000 t

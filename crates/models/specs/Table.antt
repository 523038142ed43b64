-- The model that three tables of numbers are. Assumes nothing.
--   cell_at                place of a set's benchmark and residual among the rates and among the tick values
--   number_at, change_at   the rate or tick value there, and the change there in a scenario
--   table                  the meaning of the tables
--   TableSound             the tables that may be a table model: 484 cells a set, changes up to 2,000,000 from 0
use Rattle.std.specs.Prelude.{ℕ, ◌+◌, ◌*◌, ◌&&◌, List, ℤ, pos, nat_lt, slice_index, slice_index_or, if◌then◌else◌}
use Rattle.models.specs.Meaning.{Meaning, within}
use Rattle.models.specs.Tables.{Tables}
use Rattle.models.specs.Sound.{Sound}

-- by set, then benchmark, then residual
abbrev pub cell_at : ℕ → ℕ → ℕ → ℕ
cell_at s b r = (s * 4 + b) * 121 + r

abbrev pub number_at : List ℕ → ℕ → ℕ → ℕ → ℕ
number_at xs s b r = slice_index xs (cell_at s b r)

abbrev pub change_at : Tables → ℕ → ℕ → ℕ → ℕ → ℤ
change_at t s b r j = slice_index_or t.changes (cell_at s b r * t.scenarios + j) (pos 0)

abbrev pub table : Tables → Meaning
table t = record {
  sets = t.sets;
  scenarios = t.scenarios;
  rate = λ s b r. if within t.sets s b r then number_at t.rates s b r else 0;
  tick = λ s b r. if within t.sets s b r then number_at t.ticks s b r else 0;
  change = λ s b r j. if within t.sets s b r && nat_lt j t.scenarios then change_at t s b r j else pos 0;
}

abbrev pub TableSound : Tables → Type 0
TableSound t = Sound 484 2000000 t

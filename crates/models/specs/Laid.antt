-- The meaning of tables, by how numbers are read out of them. Assumes nothing.
--   laid_out   that meaning: number reads a rate or tick value out of its table, and change a change
use Rattle.std.specs.Prelude.{ℕ, ◌&&◌, List, ℤ, pos, nat_lt, if◌then◌else◌}
use Rattle.models.specs.Meaning.{Meaning, within}
use Rattle.models.specs.Tables.{Tables}

abbrev pub laid_out : (List ℕ → ℕ → ℕ → ℕ → ℕ) → (Tables → ℕ → ℕ → ℕ → ℕ → ℤ) → Tables → Meaning
laid_out number change t = record {
  sets = t.sets;
  scenarios = t.scenarios;
  rate = λ s b r. if within t.sets s b r then number t.rates s b r else 0;
  tick = λ s b r. if within t.sets s b r then number t.ticks s b r else 0;
  change = λ s b r j. if within t.sets s b r && nat_lt j t.scenarios then change t s b r j else pos 0;
}

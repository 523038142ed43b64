-- The numbers of a model that a caller in C passes. Assumes nothing.
--   tables_of                 the tables that they are
--   cells_of, limit_of        cells of a set, and how far from 0 a number of the last table may be, by the kind
--   NumbersSound              they passed their check
--   numbers_meaning           the meaning of the model that they are: kind 0 is a table, any other knots
use Rattle.std.specs.Prelude.{ℕ, ◌==◌, if◌then◌else◌}
use Rattle.models.specs.Meaning.{Meaning}
use Rattle.models.specs.Tables.{Tables}
use Rattle.models.specs.Sound.{Sound}
use Rattle.models.specs.Table.{table}
use Rattle.knots.specs.KnotTable.{knot_table}
use Rattle.ccalls.specs.declared.numbers.CNumbers.{CNumbers}

abbrev pub tables_of : CNumbers → Tables
tables_of n = record { sets = n.sets; scenarios = n.scenarios; rates = n.rates.now; ticks = n.ticks.now; changes = n.changes.now }

abbrev pub cells_of : ℕ → ℕ
cells_of kind = if kind == 0 then 484 else 48

abbrev pub limit_of : ℕ → ℕ
limit_of kind = if kind == 0 then 2000000 else 20000

abbrev pub NumbersSound : CNumbers → Type 0
NumbersSound n = Sound (cells_of n.kind) (limit_of n.kind) (tables_of n)

abbrev pub numbers_meaning : CNumbers → Meaning
numbers_meaning n = if n.kind == 0 then table (tables_of n) else knot_table (tables_of n)

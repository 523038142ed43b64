-- The numbers that a caller lends. Assumes nothing.
--   lent   the tables that they are
use Rattle.models.specs.Tables.{Tables}
use Rattle.models.specs.declared.numbers.Numbers.{Numbers}

abbrev pub lent : Numbers → Tables
lent n = record { sets = n.sets; scenarios = n.scenarios; rates = n.rates.now; ticks = n.ticks.now; changes = n.changes.now }

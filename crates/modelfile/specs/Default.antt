-- The model in use before any is read. Assumes nothing.
--   zero_table   1 set, 20 scenarios, and every number 0
use Rattle.std.specs.Prelude.{replicate, pos}
use Rattle.models.specs.Meaning.{Meaning}
use Rattle.models.specs.Table.{table}

unfoldable pub zero_table : Meaning
zero_table = table (record { sets = 1; scenarios = 20; rates = replicate 484 0; ticks = replicate 484 0; changes = replicate 9680 (pos 0) })

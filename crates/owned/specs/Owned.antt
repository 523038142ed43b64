-- Numbers that are owned. Assumes nothing.
--   owned   the tables that they are
use Rattle.std.specs.Prelude.{vec_items}
use Rattle.models.specs.Tables.{Tables}
use Rattle.owned.specs.declared.owned_model.OwnedNumbers.{OwnedNumbers}

abbrev pub owned : OwnedNumbers → Tables
owned n = record { sets = n.sets; scenarios = n.scenarios; rates = vec_items n.rates; ticks = vec_items n.ticks; changes = vec_items n.changes }

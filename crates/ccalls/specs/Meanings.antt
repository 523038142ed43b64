-- The meaning of a model that a caller in C passes. Assumes nothing.
--   joined_meaning   of a first model alone, or joined with the second numbers
--   model_meaning    of the first numbers alone, or joined with the second
use Rattle.std.specs.Prelude.{◌==◌, if◌then◌else◌}
use Rattle.models.specs.Meaning.{Meaning}
use Rattle.models.specs.Joined.{joint}
use Rattle.ccalls.specs.declared.model.CModel.{CModel}
use Rattle.ccalls.specs.Numbers.{numbers_meaning}

abbrev pub joined_meaning : Meaning → CModel → Meaning
joined_meaning first m = if m.joined == 0 then first else joint first (numbers_meaning m.second)

abbrev pub model_meaning : CModel → Meaning
model_meaning m = joined_meaning (numbers_meaning m.first) m

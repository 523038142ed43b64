-- The meaning of a model of whichever make. Assumes nothing.
--   single_of, any_of             the meaning of a model that is not joined, and of any model
--   single_lawful, any_lawful     they are lawful
use Rattle.models.specs.Meaning.{Meaning, Lawful}
use Rattle.models.specs.Joined.{joint}
use Rattle.models.specs.JoinedLaws.{joint_lawful}
use Rattle.models.specs.Table.{table}
use Rattle.models.specs.TableLaws.{table_lawful}
use Rattle.knots.specs.KnotTable.{knot_table}
use Rattle.knots.specs.KnotTableLaws.{knot_table_lawful}
use Rattle.owned.specs.Owned.{owned}
use Rattle.owned.specs.declared.any.SingleModel.{SingleModel}
use Rattle.owned.specs.declared.any.SingleModel.TheVariants.{Table, Knots}
use Rattle.owned.specs.declared.any.AnyModel.{AnyModel}
use Rattle.owned.specs.declared.any.AnyModel.TheVariants.{One, Two}

abbrev pub single_of : SingleModel → Meaning
single_of (Table m) = table (owned m.sound.numbers)
single_of (Knots m) = knot_table (owned m.sound.numbers)

pub single_lawful : (t : SingleModel) → Lawful (single_of t)
single_lawful (Table m) = table_lawful _ m.sound.ok
single_lawful (Knots m) = knot_table_lawful _ m.sound.ok

abbrev pub any_of : AnyModel → Meaning
any_of (One m) = single_of m
any_of (Two m) = joint (single_of m.first) (single_of m.second)

pub any_lawful : (t : AnyModel) → Lawful (any_of t)
any_lawful (One m) = single_lawful m
any_lawful (Two m) = joint_lawful _ _ (single_lawful m.first) (single_lawful m.second)

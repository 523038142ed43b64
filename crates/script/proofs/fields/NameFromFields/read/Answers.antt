use Rattle.script.proofs.Chains.{more, fails, none}
use Rattle.script.specs.Fields.{name_field}
use Rattle.std.proofs.Common.{rules}
use Rattle.script.proofs.fields.NameFromFields.read.Goals as goal

pub returns-then-is_empty : goal.returns-then-is_empty
unfolding name_field
returns-then-is_empty c = fails _ _ _ _ (search rules)

pub returns-else-is_empty : goal.returns-else-is_empty
unfolding name_field
returns-else-is_empty c = more _ _ _ _ _ _ _ (search rules) c.word.ensures.after (none _)

use Rattle.std.proofs.Common.{w16}
use Rattle.script.proofs.Chains.{number_read}
use Rattle.script.proofs.fields.U16FromFields.read.Goals as goal

pub returns : goal.returns
returns c = number_read w16 _ _ _ _ _ c.word.ensures.value c.word.ensures.after c.number_field.ensures.missing c.number_field.ensures.number

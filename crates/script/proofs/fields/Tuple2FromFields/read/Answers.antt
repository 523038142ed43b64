use Rattle.script.proofs.Chains.{stops, both, first_fails, second_fails}
use Rattle.script.proofs.fields.Tuple2FromFields.read.Goals as goal

pub returns-in_err-first : goal.returns-in_err-first
returns-in_err-first g c = stops _ _ _ _ _ _ c.from_residual.ensures.1 (first_fails _ _ _ _ c.in_err-first.ensures)

pub returns-in_err-second : goal.returns-in_err-second
returns-in_err-second g c = stops _ _ _ _ _ _ c.from_residual-in_err-second.ensures.1 (second_fails _ _ _ _ _ _ c.in_ok-first.ensures c.in_err-second.ensures)

pub returns : goal.returns
returns g c = both _ _ _ _ _ _ _ c.in_ok-first.ensures c.in_ok-second.ensures

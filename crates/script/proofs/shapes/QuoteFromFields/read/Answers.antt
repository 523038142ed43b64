use Rattle.script.proofs.Chains.{stops, both, first_fails, second_fails}
use Rattle.script.proofs.shapes.QuoteFromFields.read.Goals as goal

pub returns-in_err-security : goal.returns-in_err-security
returns-in_err-security c = stops _ _ _ _ _ _ c.from_residual.ensures.1 (first_fails _ _ _ _ c.in_err-security.ensures)

pub returns-in_err-haircut : goal.returns-in_err-haircut
returns-in_err-haircut c = stops _ _ _ _ _ _ c.from_residual-in_err-haircut.ensures.1 (second_fails _ _ _ _ _ _ c.in_ok-security.ensures c.in_err-haircut.ensures)

pub returns : goal.returns
returns c = both _ _ _ _ _ _ _ c.in_ok-security.ensures c.in_ok-haircut.ensures

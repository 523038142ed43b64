use Rattle.script.proofs.Chains.{stops, both, first_fails, second_fails}
use Rattle.script.proofs.shapes.TradeRowFromFields.read.Goals as goal

pub returns-in_err-number : goal.returns-in_err-number
returns-in_err-number c = stops _ _ _ _ _ _ c.from_residual.ensures.1 (first_fails _ _ _ _ c.in_err-number.ensures)

pub returns-in_err-maturity : goal.returns-in_err-maturity
returns-in_err-maturity c = stops _ _ _ _ _ _ c.from_residual-in_err-maturity.ensures.1 (second_fails _ _ _ _ _ _ c.in_ok-number.ensures c.in_err-maturity.ensures)

pub returns : goal.returns
returns c = both _ _ _ _ _ _ _ c.in_ok-number.ensures c.in_ok-maturity.ensures

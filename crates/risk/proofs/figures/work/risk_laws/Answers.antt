use Rattle.risk.proofs.Risks.{at_risk_one}
use Rattle.risk.proofs.figures.work.risk_laws.Goals as goal

pub returns-clause-one : goal.returns-clause-one
returns-clause-one c = at_risk_one

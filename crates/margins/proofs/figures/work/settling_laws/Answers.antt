use Rattle.margins.proofs.Settles.{figures_settle}
use Rattle.margins.proofs.figures.work.settling_laws.Goals as goal

pub returns-clause-figures : goal.returns-clause-figures
returns-clause-figures c = figures_settle

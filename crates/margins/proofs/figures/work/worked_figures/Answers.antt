use Rattle.margins.proofs.Workings.{worked}
use Rattle.margins.proofs.figures.work.worked_figures.Goals as goal

pub returns : goal.returns
returns c = worked

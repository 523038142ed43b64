use Rattle.events.proofs.Placed.{events_reach_fault}
use Rattle.events.proofs.laws.events_reach_fault.Goals as goal

pub returns : goal.returns
returns c = events_reach_fault

use Rattle.events.proofs.Placed.{events_encode_file}
use Rattle.events.proofs.laws.events_encode_file.Goals as goal

pub returns : goal.returns
returns c = events_encode_file

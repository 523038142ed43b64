use Rattle.events.proofs.Encodes.{written_in_bytes}
use Rattle.events.proofs.laws.encoded_in_bytes.Goals as goal

pub returns : goal.returns
returns c = written_in_bytes

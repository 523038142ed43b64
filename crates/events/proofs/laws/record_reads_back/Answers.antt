use Rattle.events.proofs.Encodes.{record_read_back}
use Rattle.events.proofs.laws.record_reads_back.Goals as goal

pub returns : goal.returns
returns c = record_read_back

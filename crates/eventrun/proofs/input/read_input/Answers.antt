use Rattle.std.proofs.Common.{ap}
use Rattle.eventrun.proofs.Known.{within}
use Rattle.eventrun.proofs.input.read_input.Goals as goal

pub returns : goal.returns
returns g c =
    within 65537 _ _ _ _ _ c.take.ensures.limit (ap g.R.Read.remaining c.take.ensures.inner) c.new-bytes.ensures.items c.in_ok-read_to_end.ensures.bytes

use Rattle.std.proofs.Common.{length}
use Rattle.tail.proofs.Kths.{kth_of}
use Rattle.tail.proofs.keeper.kth_highest.Goals as goal

pub returns-clause-words : goal.returns-clause-words
returns-clause-words g c = kth_of g.met.T.Ranked.orders c.args.entries.now c.of.result.places.now c.of.result.filled (length c.args.places.now) c.lowest.result c.of.ensures.holds c.of.ensures.len c.lowest.ensures

use Rattle.std.proofs.Common.{◌≡◌, ◌+◌, length}
use Rattle.tail.proofs.Thresholds.{Reached}
use Rattle.tail.proofs.keeper.threshold.Given as goal

abbrev pub invariant-loop-chunk : goal.invariant-loop-chunk
invariant-loop-chunk g l =
    (l.chunk-iterator.size ≡ l.size)
    × Reached g.T.Ranked.reaches l.entries l.size (length l.yielded + 1) l.chunk-iterator.rest.now l.least

use Rattle.std.proofs.Common.{string_bytes}
use Rattle.samples.proofs.Listed.{SoFar}
use Rattle.samples.proofs.run_saying.Given as goal

abbrev pub invariant-loop-name : goal.invariant-loop-name
invariant-loop-name g l = SoFar string_bytes l.names l.name-index (string_bytes l.text)

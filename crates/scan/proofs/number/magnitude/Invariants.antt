use Rattle.std.proofs.Common.{◌≡◌, ◌≤◌, drop}
use Rattle.scan.specs.Number.{read_on}
use Rattle.scan.proofs.number.magnitude.Given as goal

abbrev pub invariant-loop-b : goal.invariant-loop-b
invariant-loop-b l = (l.n ≤ 18446744073709551616) × (read_on l.n (drop l.b-index l.word) ≡ read_on 0 l.word)

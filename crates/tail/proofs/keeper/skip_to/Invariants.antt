use Rattle.std.proofs.Common.{◌≡◌, false, List, ◌++◌, length}
use Rattle.std.specs.Fn.{FnReturnsAt}
use Rattle.std.specs.List.{AllByRecursion}
use Rattle.tail.proofs.keeper.skip_to.Given as goal

abbrev pub invariant-loop-rest : goal.invariant-loop-rest
invariant-loop-rest g l = (gone : List _) × (l.entries ≡ gone ++ l.rest) × AllByRecursion (λ y. FnReturnsAt g.F.Fn l.wanted y false) gone

abbrev pub decreases-loop-rest : goal.decreases-loop-rest
decreases-loop-rest g l = length l.rest

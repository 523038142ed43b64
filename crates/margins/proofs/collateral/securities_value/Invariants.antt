use Rattle.std.proofs.Common.{◌≡◌, ◌*◌, ◌≤◌, length, get_or}
use Rattle.tables.specs.Numbers.{sum_below}
use Rattle.tables.specs.Collateral.{lots_value}
use Rattle.tables.specs.Limits.{no_security}
use Rattle.margins.proofs.collateral.securities_value.Given as goal

abbrev pub invariant-loop-count : goal.invariant-loop-count
invariant-loop-count l =
    (l.sum ≡ sum_below (λ i. lots_value (get_or l.lots i 0) (get_or l.securities i no_security)) (length l.yielded)) × (l.sum ≤ 3000000000000 * length l.yielded)

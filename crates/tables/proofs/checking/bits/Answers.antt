use Rattle.std.proofs.Common.{arith, rules}
use Rattle.tables.proofs.Bits.{or_zero, at_32, at_40, at_48}
use Rattle.tables.proofs.checking.bits.Goals as goal

pub returns : goal.returns
returns c =
    let place = c.args.place.now in
    simp (or_zero, at_32 place.benchmark (omega arith), at_40 place.side (omega arith), at_48 place.maturity (omega arith), at_32 place.rate (omega arith)) (search rules)

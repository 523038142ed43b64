use Rattle.std.proofs.Common.{◌-◌, ◌*◌, ◌≤◌, arith, rules}
use Rattle.std.proofs.lemmas.Nat.{mul-le}
use Rattle.tables.proofs.security.Security.lots_value.Goals as goal

pub returns-then-self-clause-bound : goal.returns-then-self-clause-bound
returns-then-self-clause-bound c =
    let price : c.args.self.row.price ≤ 30000 = search rules in
    let one = mul-le c.args.lots c.args.self.row.price c.args.lots 30000 (omega arith) price in
    omega (arith, mul-le (c.args.lots * c.args.self.row.price) (100 - c.args.self.row.haircut) (c.args.lots * 30000) 100 one (omega arith))

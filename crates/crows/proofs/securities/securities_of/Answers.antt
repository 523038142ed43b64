use Rattle.std.proofs.Common.{◌≡◌, length, rules, arith}
use Rattle.crows.specs.Rows.{security_of}
use Rattle.crows.proofs.Mapped.{mapped}
use Rattle.crows.proofs.securities.securities_of.Goals as goal

pub returns : goal.returns
returns c =
    let len : length c.args.rows ≡ 32 = search rules in
    mapped security_of c.args.rows c.map.result (search rules) (λ i d e lt. let called = c.map.ensures.items.at i d e (omega (arith, len)) in search rules)

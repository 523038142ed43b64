use Rattle.std.proofs.Common.{◌≡◌, pos, nat_abs, ap, ◌∙◌}
use Rattle.knots.specs.KnotTable.{number_at}
use Rattle.knots.specs.KnotTableLaws.{number_exact}
use Rattle.knots.proofs.Casts.{number_is}
use Rattle.knots.proofs.rows.number.Goals as goal

pub returns : goal.returns
returns c =
    let is : c.unsigned_abs.result ≡ nat_abs (number_at c.args.numbers.now c.args.row c.args.residual) =
    number_is c.args.numbers.now c.args.row c.args.residual c.neighbours-p.result.0 c.neighbours-p.result.1 c.unsigned_abs.result c.value.result
    c.requires.sizes c.neighbours-p.ensures.low c.neighbours-p.ensures.high c.value.ensures (record { sfits = c.value.type_inv }) c.unsigned_abs.ensures.value
    in
    record { value = is; exact = ap pos is ∙ number_exact c.args.numbers.now c.args.row c.args.residual c.requires.within.1 }

use Rattle.std.proofs.Common.{pos, ◌∙◌, arith, w32, w64, SFits}
use Rattle.std.proofs.lemmas.Int.{to_z-of_z}
use Rattle.std.proofs.lemmas.List.{length-take-le}
use Rattle.risk.proofs.Signs.{fits_money}
use Rattle.risk.proofs.Sizes.{cast_wide}
use Rattle.risk.proofs.Nets.{bits_nought, net_nought, net_var_of}
use Rattle.risk.proofs.quotes.Quotes.netted_risk.Goals as goal

pub returns-then-net-eq0 : goal.returns-then-net-eq0
returns-then-net-eq0 g c =
    let w = c.net_of-net.result in
    net_nought (g.M.MarginModel.meaning c.args.self.now.model.now) c.args.self.now.day c.args.first.now c.args.group.trades.now c.requires w c.net_of-net.ensures.value
    (bits_nought w c.net_of-net.ensures.bound c.if-net-eq0.true)

pub returns : goal.returns
returns g c =
    let m = g.M.MarginModel.meaning c.args.self.now.model.now in
    let few = (g.M.MarginModel.lawful c.args.self.now.model.now).few_scenarios in
    let w = c.net_of-net.result in
    let x = c.unwrap_or-lowest.result in
    let fits : SFits w32 x = record { sfits = c.unwrap_or-lowest.type_inv } in
    let front = length-take-le c.scenarios-count.result c.args.changes.now (omega (arith, c.scenarios-count.ensures, few, c.told-changes)) in
    net_var_of m c.args.self.now.day c.args.first.now c.args.group.trades.now c.requires w c.net_of-net.ensures.value
    _ c.unsigned_abs.result c.signed_changes-row.result.now x _ c.gain.result
    (to_z-of_z w64 w (fits_money w (omega (arith, c.net_of-net.ensures.bound)))) c.if-net-eq0.false c.unsigned_abs.ensures.value
    (omega (arith, c.signed_changes-row.ensures.len, front, c.scenarios-count.ensures)) (λ j h. c.signed_changes-row.ensures.value j (omega (arith, front, c.scenarios-count.ensures)))
    (c.unwrap_or-lowest.ensures ∙ c.lowest_of_tail.ensures (pos 0)) (cast_wide x fits) c.gain.ensures

use Rattle.std.proofs.Common.{◌≡◌, ℕ, ℤ, pos, ◌-ℤ◌, ◌*ℤ◌, ap, ap₂, ◌∙◌, arith, w64, to_z, of_z, rules}
use Rattle.std.specs.Int.{int_div_euclid}
use Rattle.tables.specs.Codes.{side_of}
use Rattle.tables.specs.declared.codes.Side.TheVariants.{Receive}
use Rattle.market.specs.Days.{residual_of}
use Rattle.risk.specs.Signs.{negated_for}
use Rattle.margins.specs.Marks.{worth_of}
use Rattle.margins.proofs.Worths.{negated_by, gap_is}
use Rattle.margins.proofs.marks.mark.Goals as goal

pub returns-clause-value : goal.returns-clause-value
returns-clause-value g c =
    let t = c.args.trade.row.now in
    let s = side_of t.side in
    let tick : ℕ = c.tick.result in
    let rate : ℕ = c.rate.result in
    let n : ℕ = t.notional in
    let divided : to_z w64 (of_z w64 c.div_euclid.result) ≡ c.div_euclid.result = search rules in
    let worth : to_z w64 (of_z w64 c.worth.result) ≡ c.worth.result = search rules in
    let flow : to_z w64 (of_z w64 c.flow.result) ≡ c.flow.result = search rules in
    let law = g.M.MarginModel.lawful c.args.quotes.now.model.now in
    let gap = gap_is rate t.rate (omega (arith, c.rate.ensures, law.rate_most c.args.quotes.now.day.set t.benchmark (residual_of c.args.quotes.now.day t))) c.args.trade.fits.1 in
    divided ∙ c.div_euclid.ensures
    ∙ ap (λ (z : ℤ). int_div_euclid z (pos 1000))
    (worth ∙ c.worth.ensures.value
    ∙ ap (λ (z : ℤ). z *ℤ pos tick) (flow ∙ c.flow.ensures.value ∙ ap (λ (z : ℤ). negated_for Receive s (pos n *ℤ z)) gap)
    ∙ negated_by s (pos n *ℤ (pos rate -ℤ pos t.rate)) tick
    ∙ ap₂ (λ (r k : ℕ). negated_for Receive s (worth_of n r t.rate k)) c.rate.ensures c.tick.ensures)

use Rattle.std.proofs.Common.{length, nat_abs, ap, ◌∙◌, arith, w64}
use Rattle.std.proofs.lemmas.Int.{to_z-of_z}
use Rattle.risk.specs.Signs.{lost_of}
use Rattle.risk.proofs.Signs.{lost_le}
use Rattle.margins.proofs.Bounds.{gross_most}
use Rattle.margins.proofs.figures.work.Valuation.benchmark.Goals as goal

pub returns-clause-bound : goal.returns-clause-bound
returns-clause-bound g c =
    let mark = c.mark_to_market-mark.result in
    let back = to_z-of_z w64 mark (record { sfits = c.mark_to_market-mark.type_inv }) in
    let long = ap length c.rows-rows.ensures.value in
    let size = ap nat_abs back in
    record {
      initial = c.risk_figures.ensures.initial;
      loss = omega (arith, lost_le mark, c.lost.ensures ∙ ap lost_of back, c.mark_to_market-mark.ensures.bound);
      credit = omega (arith, c.margin_credit.ensures.bound, c.mark_to_market-mark.ensures.bound);
      gross = omega (arith, gross_most c.rows-rows.result.now c.rows-rows.ensures.keeps, c.gross_notional.ensures);
    }

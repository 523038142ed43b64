use Rattle.std.proofs.Common.{ℕ, ℤ, get_or, pos, ◌+ℤ◌, ◌*ℤ◌, nat_abs, sym, ap, ◌∙◌, arith, w32, to_z, of_z}
use Rattle.std.proofs.lemmas.Int.{to_z-of_z}
use Rattle.risk.proofs.Adds.{adds_below, adds_above}
use Rattle.risk.proofs.Products.{loss_fits, loss_is}
use Rattle.risk.proofs.adding.add_each.Goals as goal

pub overflow_add-loss : goal.overflow_add-loss
overflow_add-loss c =
    let i = c.loop-scenario.scenario in
    let same = c.loop-scenario.invariant.1 i (omega arith) in
    loss_fits (get_or c.loop-scenario.losses i (pos 0)) c.args.weight (get_or c.args.row.now i (pos 0)) (omega (arith, ap nat_abs same, c.requires.losses i)) c.requires.weight (c.requires.changes i)

pub loop-scenario-preserved : goal.loop-scenario-preserved
loop-scenario-preserved c =
    let i = c.loop-scenario.scenario in
    let w = c.args.weight in
    let a = get_or c.loop-scenario.losses i (pos 0) in
    let change = get_or c.args.row.now i (pos 0) in
    let back = to_z-of_z w32 w c.ranges.weight in
    let add : ℕ → ℤ = λ k. to_z w32 (of_z w32 w) *ℤ get_or c.args.row.now k (pos 0) in
    let same = c.loop-scenario.invariant.1 i (omega arith) in
    let is = loss_is a w change (omega (arith, ap nat_abs same, c.requires.losses i)) c.requires.weight (c.requires.changes i) ∙ (λ k. same k +ℤ sym back k *ℤ change) in (
      adds_below add c.args.losses.now c.loop-scenario.losses i _ (omega arith) c.loop-scenario.invariant.0 is,
      adds_above add c.args.losses.now c.loop-scenario.losses i _ c.loop-scenario.invariant.1,
    )

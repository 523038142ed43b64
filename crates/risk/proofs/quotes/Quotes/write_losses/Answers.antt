use Rattle.std.proofs.Common.{◌≡◌, ◌+ℤ◌, get_or, pos, ap, ◌∙◌, arith, rules}
use Rattle.std.proofs.Math.IntN.{+ℤ_idl}
use Rattle.risk.specs.Losses.{loss_of}
use Rattle.risk.proofs.Adds.{losses_are}
use Rattle.risk.proofs.quotes.Quotes.write_losses.Goals as goal

pub returns : goal.returns
returns g c =
    let m = g.M.MarginModel.meaning c.args.self.now.model.now in
    let day = c.args.self.now.day in
    let ts = c.args.group.trades.now in
    losses_are m day ts c.add_group.new.losses (omega (arith, c.add_group.auto.losses, c.fill.auto.self, c.requires))
    (λ j h. let nought : get_or c.fill.new.self j (pos 0) ≡ pos 0 = search rules in
    c.add_group.ensures j (omega (arith, c.fill.auto.self, c.requires)) ∙ ap (λ z. z +ℤ loss_of m day j ts) nought ∙ +ℤ_idl (loss_of m day j ts))

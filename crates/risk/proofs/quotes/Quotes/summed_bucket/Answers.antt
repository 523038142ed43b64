use Rattle.std.proofs.Common.{get_or, pos, ◌+ℤ◌, nat_abs, ap, ◌∙◌, arith}
use Rattle.risk.proofs.Apart.{standing}
use Rattle.risk.proofs.Risks.{get_or_losses, losses_most}
use Rattle.risk.proofs.quotes.Quotes.summed_bucket.Goals as goal

pub add_losses-requires-clause-small : goal.add_losses-requires-clause-small
add_losses-requires-clause-small g c = λ j.
    let q = c.args.self.now in
    let ts = c.args.group.trades.now in
    let stands = standing ts c.args.group.stand in
    let one = ap (λ xs. nat_abs (get_or xs j (pos 0))) c.write_losses.ensures in
    (omega (arith, one, stands.few, losses_most (g.M.MarginModel.meaning q.model.now) q.day j ts (g.M.MarginModel.lawful q.model.now) stands.each), omega (arith, c.requires.small j))

pub returns-clause-losses : goal.returns-clause-losses
returns-clause-losses g c = λ j h.
    let q = c.args.self.now in
    c.add_losses.ensures j h
    ∙ ap (λ z. get_or c.args.all.now j (pos 0) +ℤ z) (ap (λ xs. get_or xs j (pos 0)) c.write_losses.ensures ∙ get_or_losses (g.M.MarginModel.meaning q.model.now) q.day c.args.group.trades.now j (pos 0) (omega (arith, c.requires.len)))

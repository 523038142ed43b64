use Rattle.std.proofs.Common.{◌≤◌, length, ap, ◌∙◌, arith}
use Rattle.tables.specs.Books.{Book}
use Rattle.tables.proofs.Books.{kept}
use Rattle.rules.specs.Settling.{house_settled}
use Rattle.house.proofs.Finishing.{finished}
use Rattle.house.proofs.Resting.{tables_rest}
use Rattle.house.proofs.settle.finish_settling.Goals as goal

pub returns : goal.returns
returns g c =
    let n = c.args.house.now.accounts in
    let rs = c.args.records.now in
    let ts = c.args.trades.now in
    let k = c.args.house.now.market.state in
    let m = g.M.MarginModel.meaning c.args.model.now in
    let cover = c.stored_cover-cover.result.paise in
    let own = c.settle_own-own in
    let some : 1 ≤ length rs = omega (arith, (kept n rs ts c.requires).rows, c.args.house.now.some) in
    let o = finished m k n cover rs c.second_flags.new.rows ts own.result some c.requires c.stored_cover-cover.ensures
    (own.ensures.value ∙ ap (λ (b : Book). (house_settled m k cover b).row) c.read_book-held.ensures)
    own.ensures.keeps own.ensures.figures c.second_flags.ensures in
    record { rows = o.0; keeps = o.1; rests = tables_rest m k rs _ ts some o.0 }

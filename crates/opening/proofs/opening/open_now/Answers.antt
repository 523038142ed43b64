use Rattle.std.proofs.Common.{◌≡◌, ap₂, ◌∙◌, rules}
use Rattle.tables.specs.Limits.{tables_keep}
use Rattle.rules.specs.Opening.{opened_rows, opened_trades}
use Rattle.opening.proofs.Opened.{allowed, opened_keeps}
use Rattle.opening.proofs.opening.open_now.Goals as goal

pub returns-clause-keeps : goal.returns-clause-keeps
returns-clause-keeps c =
    let n = c.args.accounts in
    let a = allowed n c.args.month c.args.records.now c.args.trades.now c.requires in
    let rows : c.fill.new.self ≡ opened_rows n = search rules in
    let trades : c.fill-2.new.self ≡ opened_trades n = search rules in
    ap₂ (tables_keep n) rows trades ∙ opened_keeps n a.some

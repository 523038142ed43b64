use Rattle.std.proofs.Common.{◌<◌, length, get_or, set, ap, ◌∙◌, arith}
use Rattle.std.proofs.lemmas.List.{get_or_default}
use Rattle.std.proofs.lemmas.List.Edits.{map_over_more}
use Rattle.tables.specs.declared.row.AccountRow.{AccountRow}
use Rattle.tables.specs.Books.{no_row}
use Rattle.rules.specs.Settling.{row_reflagged}
use Rattle.house.proofs.settle.second_flags.Goals as goal

pub loop-row-preserved : goal.loop-row-preserved
loop-row-preserved c =
    let i = c.loop-row.row-index in
    let h : i < length c.loop-row.rows = omega arith in
    let x : AccountRow = get_or c.loop-row.rows i no_row in
    ap (set c.loop-row.rows i) c.second_after-row.ensures
    ∙ map_over_more (row_reflagged c.args.restricted) c.args.rows.now c.loop-row.rows i x
    c.loop-row-test.true c.loop-row.invariant (get_or_default c.loop-row.rows i no_row x h)

use Rattle.scriptrun.proofs.Columns.{right_7, right_19, right_6, left_11, row_joined}
use Rattle.scriptrun.proofs.lines.write_record.Goals as goal

pub returns : goal.returns
returns c =
    row_joined _ _ _ _ _ _ _ _ _ _ _ _ _ _ _ c.in_ok-write.ensures.bytes c.in_ok-writeln.ensures.bytes
    (right_7 _ _ c.laid_out.ensures) (right_19 _ _ c.laid_out-2.ensures) (right_19 _ _ c.laid_out-3.ensures)
    (right_19 _ _ c.laid_out-4.ensures) (left_11 _ _ _ _ c.laid_out-5.ensures c.restriction-held.ensures) (right_6 _ _ c.laid_out-6.ensures)

use Rattle.std.proofs.Common.{ap, ◌∙◌, string_bytes, nat_abs}
use Rattle.std.specs.Prelude.{codes}
use Rattle.margins.specs.declared.figures.BenchmarkFigures.{BenchmarkFigures}
use Rattle.statement.specs.Worked.{worked_line, marked_of}
use Rattle.statement.proofs.Figures.{value_is, then_line}
use Rattle.statement.proofs.worked.write_mark.Goals as goal

pub returns : goal.returns
returns g c =
    let m = g.M.MarginModel.meaning c.args.model.now in
    let o = string_bytes c.args.text.now in
    let first = worked_line (codes "mark-pay-100") (nat_abs (marked_of m).mark) 500000 in
    then_line (codes "credit-pay-100") o first _ _ _ _ _
    (value_is (codes "mark-pay-100") o _ _ _ _ c.in_ok-write_worked.ensures (c.mark_size.ensures ∙ ap (λ (f : BenchmarkFigures). nat_abs f.mark) c.in_ok-figures.ensures))
    c.in_ok-write_worked-2.ensures (ap (λ (f : BenchmarkFigures). f.credit) c.in_ok-figures.ensures)

use Rattle.std.proofs.Common.{◌++◌, string_bytes}
use Rattle.std.specs.Prelude.{codes}
use Rattle.statement.specs.Worked.{worked_line, paid_of, pair_of}
use Rattle.statement.proofs.Figures.{value_is, then_line}
use Rattle.statement.proofs.worked.write_initial.Goals as goal

pub returns : goal.returns
returns g c =
    let m = g.M.MarginModel.meaning c.args.model.now in
    let o = string_bytes c.args.text.now in
    let first = worked_line (codes "im-pay-36-receive-60") (pair_of m) 30000000000 in
    let second = worked_line (codes "im-pay-100-at-36") (paid_of m 36) 5000000 in
    let third = worked_line (codes "im-pay-100-at-37") (paid_of m 37) 10000000 in
    let fourth = worked_line (codes "im-pay-100-at-60") (paid_of m 60) 10000000 in
    then_line (codes "im-pay-100-at-61") o (first ++ second ++ third ++ fourth) _ _ _ _ _
    (then_line (codes "im-pay-100-at-60") o (first ++ second ++ third) _ _ _ _ _
    (then_line (codes "im-pay-100-at-37") o (first ++ second) _ _ _ _ _
    (then_line (codes "im-pay-100-at-36") o first _ _ _ _ _
    (value_is (codes "im-pay-36-receive-60") o _ _ _ _ c.in_ok-write_worked.ensures c.in_ok-initial.ensures)
    c.in_ok-write_worked-2.ensures c.in_ok-paid.ensures)
    c.in_ok-write_worked-3.ensures c.in_ok-paid-2.ensures)
    c.in_ok-write_worked-4.ensures c.in_ok-paid-3.ensures)
    c.in_ok-write_worked-5.ensures c.in_ok-paid-4.ensures

use Rattle.std.proofs.Common.{◌∙◌, string_bytes}
use Rattle.std.specs.Prelude.{codes}
use Rattle.statement.specs.Worked.{worked_line, tenths_of}
use Rattle.statement.proofs.Figures.{value_is, then_line}
use Rattle.statement.proofs.worked.write_charges.Goals as goal

pub returns : goal.returns
returns c =
    let o = string_bytes c.args.text.now in
    then_line (codes "collateral-10-lots") o (worked_line (codes "volatility-tenths") tenths_of 175) _ _ _ _ _
    (value_is (codes "volatility-tenths") o _ _ _ _ c.in_ok-write_worked.ensures (c.from.ensures ∙ c.tenths.ensures))
    c.in_ok-write_worked-2.ensures c.in_ok-lots_value.ensures

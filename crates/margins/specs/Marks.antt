-- What trades are worth at the current rates.
-- worth_of: notional × (current rate − fixed rate) × tick value, in thousandths of a paisa.
-- mark_of, marks_of: the mark of a trade, and of the trades of one benchmark. credit_of: what of a gain counts as credit.
use Rattle.std.specs.Prelude.{ℕ, ◌*◌, ◌/◌, List, ℤ, pos, ◌-ℤ◌, ◌*ℤ◌}
use Rattle.std.specs.Int.{int_div_euclid}
use Rattle.models.specs.Meaning.{Meaning}
use Rattle.tables.specs.Codes.{side_of}
use Rattle.tables.specs.declared.codes.Side.TheVariants.{Receive}
use Rattle.tables.specs.declared.row.TradeRow.{TradeRow}
use Rattle.market.specs.declared.day.Day.{Day}
use Rattle.market.specs.Days.{residual_of}
use Rattle.risk.specs.Signs.{signed_sum, negated_for, gain_of}

abbrev pub worth_of : ℕ → ℕ → ℕ → ℕ → ℤ
worth_of n r f k = pos n *ℤ (pos r -ℤ pos f) *ℤ pos k

-- negated for receive before it is divided; the divisor is positive, so that the quotient is rounded down
abbrev pub mark_of : Meaning → Day → TradeRow → ℤ
mark_of m d t =
    int_div_euclid
    (negated_for Receive (side_of t.side) (worth_of t.notional (m.rate d.set t.benchmark (residual_of d t)) t.rate (m.tick d.set t.benchmark (residual_of d t))))
    (pos 1000)

unfoldable pub marks_of : Meaning → Day → List TradeRow → ℤ
marks_of m d ts = signed_sum (mark_of m d) ts

-- 95 per cent, rounded down
abbrev pub credit_of : ℤ → ℕ
credit_of z = gain_of z * 95 / 100

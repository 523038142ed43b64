-- The worked figures, each as the rules' definitions give it, beside what it should be. Assumes nothing.
--   worked_line                       the line of a figure
--   worked_tables, worked_trade       one rate and one tick value and no changes; a trade in MIBOR
--   mibor_of, paid_of                 what trades in MIBOR come to in month 300; the initial margin of one that pays 100 lakh
--   pair_of                           the initial margin of two, one that pays and one that receives
--   initial_lines                     the initial margins
--   marked_of, mark_lines             what one trade that pays 100 lakh at 6.5 per cent comes to; its mark and its credit
--   loss_of, loss_line                the second highest of three losses
--   tenths_of                         the volatility of a check, in tenths of a per cent
--   worked_lots                       what ten lots of a security count for
--   charge_lines                      both of these
--   level_line, level_lines           a concentration level after a value is known, with an average of 1000; six of them
--   flag_line, flag_lines             an own flag after an obligation is known, with 100 available; four of them
--   model_lines, rule_lines           what is worked on a model, with the tail; what is worked on the rules of charges and flags
--   worked_text                       all lines
use Rattle.std.specs.Prelude.{ℕ, ◌+◌, Bool, true, false, List, [], ◌∷◌, ◌++◌, codes, pos, replicate, unsigned_abs, slice_index_or}
use Rattle.std.specs.Fmt.{decimal}
use Rattle.std.specs.Int.{from_bool}
use Rattle.models.specs.Meaning.{Meaning}
use Rattle.models.specs.Tables.{Tables}
use Rattle.scan.specs.Texts.{line}
use Rattle.tail.specs.Tail.{reaches_loss, ranked}
use Rattle.tables.specs.Collateral.{lots_value}
use Rattle.tables.specs.declared.row.TradeRow.{TradeRow}
use Rattle.market.specs.Volatility.{charged}
use Rattle.margins.specs.Charges.{level_of}
use Rattle.margins.specs.Figures.{figures_of}
use Rattle.margins.specs.Flags.{own_after}
use Rattle.margins.specs.declared.figures.BenchmarkFigures.{BenchmarkFigures}
use Rattle.rules.specs.Opening.{opened_market, empty_row}

unfoldable pub worked_line : List ℕ → ℕ → ℕ → List ℕ
worked_line name value expected = line (codes "worked" ∷ name ∷ decimal value ∷ codes "expected" ∷ decimal expected ∷ [])

-- one set and 20 scenarios
unfoldable pub worked_tables : Tables
worked_tables = record { sets = 1; scenarios = 20; rates = replicate 484 65500; ticks = replicate 484 10000; changes = replicate 9680 (pos 0) }

abbrev pub worked_trade : ℕ → ℕ → ℕ → ℕ → TradeRow
worked_trade side lakh months fixed = record { number = 1; benchmark = 0; side = side; maturity = 300 + months; notional = lakh; rate = fixed }

abbrev pub mibor_of : Meaning → List TradeRow → BenchmarkFigures
mibor_of m ts = (figures_of m (opened_market 300) empty_row ts).overnight.first

abbrev pub paid_of : Meaning → ℕ → ℕ
paid_of m months = (mibor_of m (worked_trade 0 100 months 0 ∷ [])).risk.initial

abbrev pub pair_of : Meaning → ℕ
pair_of m = (mibor_of m (worked_trade 0 1000000 36 0 ∷ worked_trade 1 200000 60 0 ∷ [])).risk.initial

abbrev pub initial_lines : Meaning → List ℕ
initial_lines m =
    worked_line (codes "im-pay-36-receive-60") (pair_of m) 30000000000
    ++ worked_line (codes "im-pay-100-at-36") (paid_of m 36) 5000000
    ++ worked_line (codes "im-pay-100-at-37") (paid_of m 37) 10000000
    ++ worked_line (codes "im-pay-100-at-60") (paid_of m 60) 10000000
    ++ worked_line (codes "im-pay-100-at-61") (paid_of m 61) 17500000

-- of one trade that pays 100 lakh at 6.5 per cent
abbrev pub marked_of : Meaning → BenchmarkFigures
marked_of m = mibor_of m (worked_trade 0 100 36 65000 ∷ [])

abbrev pub mark_lines : Meaning → List ℕ
mark_lines m =
    worked_line (codes "mark-pay-100") (unsigned_abs (marked_of m).mark) 500000
    ++ worked_line (codes "credit-pay-100") (marked_of m).credit 475000

-- the second highest of three losses
abbrev pub loss_of : ℕ
loss_of = unsigned_abs (slice_index_or (ranked reaches_loss (pos 9 ∷ pos 9 ∷ pos 5 ∷ [])) 1 (pos 0))

abbrev pub loss_line : List ℕ
loss_line = worked_line (codes "kth-loss-9-9-5") loss_of 9

abbrev pub tenths_of : ℕ
tenths_of = charged (replicate 5 10000) (13226 ∷ 13226 ∷ 0 ∷ 0 ∷ 0 ∷ [])

abbrev pub worked_lots : ℕ
worked_lots = lots_value 10 (record { price = 9850; haircut = 4; listed = true })

abbrev pub charge_lines : List ℕ
charge_lines = worked_line (codes "volatility-tenths") tenths_of 175 ++ worked_line (codes "collateral-10-lots") worked_lots 9456000

-- a level after a value is known, with an average of 1000
abbrev pub level_line : List ℕ → ℕ → ℕ → ℕ → List ℕ
level_line name level value expected = worked_line name (level_of level value 1000) expected

abbrev pub level_lines : List ℕ
level_lines =
    level_line (codes "level-0-at-80") 0 80 0
    ++ level_line (codes "level-0-at-81") 0 81 1
    ++ level_line (codes "level-0-at-150") 0 150 1
    ++ level_line (codes "level-0-at-151") 0 151 2
    ++ level_line (codes "level-2-at-130") 2 130 2
    ++ level_line (codes "level-2-at-129") 2 129 1

-- an own flag after an obligation is known, with 100 available
unfoldable pub flag_line : List ℕ → Bool → ℕ → ℕ → List ℕ
flag_line name was obligation expected = worked_line name (from_bool (own_after was obligation 100)) expected

abbrev pub flag_lines : List ℕ
flag_lines =
    flag_line (codes "own-flag-95-of-100") false 95 0
    ++ flag_line (codes "own-flag-96-of-100") false 96 1
    ++ flag_line (codes "own-flag-stays-at-90") true 90 1
    ++ flag_line (codes "own-flag-clears-at-89") true 89 0

abbrev pub model_lines : Meaning → List ℕ
model_lines m = initial_lines m ++ loss_line ++ mark_lines m

abbrev pub rule_lines : List ℕ
rule_lines = charge_lines ++ level_lines ++ flag_lines

abbrev pub worked_text : Meaning → List ℕ
worked_text m = model_lines m ++ rule_lines

-- What a statement prints: words and decimal numbers, as `line` of crate `scan` puts them together. Assumes nothing.
--   words             words with a blank (byte 32) after each
--   model_line        the model's name and counts
--   benchmark_heading, family_heading   the names of the figures of a benchmark, and of a family
--   benchmark_lines   that heading, and the figures of each benchmark
--   family_lines      that heading, and the figures of each family
--   collateral_line   cash, and what the securities and both count for
--   owed_words        what is owed, what stands against it, and what is short
--   flags_line        both flags, and the restriction that they are
--   account_line      what is owed, and the flags after settling
--   figures_text      the lines of benchmarks, families, collateral and account
--   statement_text    the statement of an account on a model, and an empty line
use Rattle.std.specs.Prelude.{ℕ, ◌+◌, ◌*◌, Bool, List, [], ◌∷◌, ◌++◌, codes}
use Rattle.std.specs.Fmt.{decimal}
use Rattle.std.specs.Int.{from_bool}
use Rattle.models.specs.Meaning.{Meaning}
use Rattle.scan.specs.Texts.{line}
use Rattle.tables.specs.declared.row.AccountRow.{AccountRow}
use Rattle.tables.specs.declared.row.TradeRow.{TradeRow}
use Rattle.market.specs.declared.state.MarketState.{MarketState}
use Rattle.margins.specs.Figures.{figures_of}
use Rattle.margins.specs.Flags.{own_after, second_after}
use Rattle.margins.specs.Printing.{benchmark_text, family_text}
use Rattle.margins.specs.declared.figures.Figures.{Figures}

-- words with a blank (byte 32) after each
abbrev pub words : List (List ℕ) → List ℕ
words [] = []
words (w ∷ ws) = w ++ (32 ∷ words ws)

abbrev pub model_line : List ℕ → Meaning → List ℕ
model_line name m = line (codes "model" ∷ name ∷ codes "sets" ∷ decimal m.sets ∷ codes "scenarios" ∷ decimal m.scenarios ∷ [])

abbrev pub benchmark_heading : List ℕ
benchmark_heading = line (codes "benchmark trades gross residuals half-years whole spread minimum initial mark loss credit" ∷ [])

abbrev pub benchmark_lines : Figures → List ℕ
benchmark_lines f =
    benchmark_heading
    ++ line (codes "0" ∷ benchmark_text f.overnight.first ∷ [])
    ++ line (codes "1" ∷ benchmark_text f.overnight.second ∷ [])
    ++ line (codes "2" ∷ benchmark_text f.forward.first ∷ [])
    ++ line (codes "3" ∷ benchmark_text f.forward.second ∷ [])

abbrev pub family_heading : List ℕ
family_heading = line (codes "family initial gross initial-level gross-level volatility concentration obligation credit" ∷ [])

abbrev pub family_lines : Figures → List ℕ
family_lines f = family_heading ++ line (codes "0" ∷ family_text f.overnight ∷ []) ++ line (codes "1" ∷ family_text f.forward ∷ [])

abbrev pub collateral_line : ℕ → Figures → List ℕ
collateral_line cash f =
    line (codes "collateral cash" ∷ decimal cash ∷ codes "securities" ∷ decimal f.securities ∷ codes "total" ∷ decimal f.collateral ∷ [])

abbrev pub owed_words : Figures → List ℕ
owed_words f = words (codes "account obligation" ∷ decimal f.obligation ∷ codes "available" ∷ decimal f.available ∷ codes "shortfall" ∷ decimal f.shortfall ∷ [])

abbrev pub flags_line : Bool → Bool → List ℕ
flags_line own second =
    line (codes "own-flag" ∷ decimal (from_bool own) ∷ codes "second-flag" ∷ decimal (from_bool second) ∷ codes "restriction" ∷ decimal (from_bool own + 2 * from_bool second) ∷ [])

abbrev pub account_line : AccountRow → Bool → Figures → List ℕ
account_line row restricted f =
    owed_words f ++ flags_line (own_after row.own f.obligation f.available) (second_after restricted row.second f.obligation f.available)

abbrev pub figures_text : AccountRow → Bool → Figures → List ℕ
figures_text row restricted f = benchmark_lines f ++ family_lines f ++ collateral_line row.cash f ++ account_line row restricted f

abbrev pub statement_text : List ℕ → Meaning → MarketState → AccountRow → Bool → List TradeRow → List ℕ
statement_text name m state row restricted trades =
    model_line name m ++ figures_text row restricted (figures_of m state row trades) ++ line []

-- What the figures of an account print: their numbers in decimal, with a blank (byte 32) between two.
-- benchmark_text, family_text: those of one benchmark, and of one family without its benchmarks.
use Rattle.std.specs.Prelude.{ℕ, List, [], ◌∷◌}
use Rattle.std.specs.List.{join_with_byte}
use Rattle.std.specs.Fmt.{decimal, signed_decimal}
use Rattle.risk.specs.Printing.{numbers_text, risk_text}
use Rattle.margins.specs.declared.figures.BenchmarkFigures.{BenchmarkFigures}
use Rattle.margins.specs.declared.figures.FamilyFigures.{FamilyFigures}

abbrev pub benchmark_text : BenchmarkFigures → List ℕ
benchmark_text f =
    join_with_byte 32 (decimal f.trades ∷ decimal f.gross ∷ risk_text f.risk ∷ signed_decimal f.mark ∷ decimal f.loss ∷ decimal f.credit ∷ [])

abbrev pub family_text : FamilyFigures → List ℕ
family_text f =
    numbers_text (f.initial ∷ f.gross ∷ f.levels.initial ∷ f.levels.gross ∷ f.volatility ∷ f.concentration ∷ f.obligation ∷ f.credit ∷ [])

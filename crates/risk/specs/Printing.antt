-- How figures are printed: numbers in decimal, with a blank (byte 32) between two.
-- numbers_text: so. risk_text: the risk figures of one benchmark.
use Rattle.std.specs.Prelude.{ℕ, List, [], ◌∷◌, map}
use Rattle.std.specs.List.{join_with_byte}
use Rattle.std.specs.Fmt.{decimal}
use Rattle.risk.specs.declared.figures.RiskFigures.{RiskFigures}

abbrev pub numbers_text : List ℕ → List ℕ
numbers_text ns = join_with_byte 32 (map decimal ns)

abbrev pub risk_text : RiskFigures → List ℕ
risk_text f = numbers_text (f.residuals ∷ f.halfyears ∷ f.whole ∷ f.spread ∷ f.minimum ∷ f.initial ∷ [])

-- What is printed of samples: of each a line, its name and a verdict with a blank (byte 32) between, and a line feed (10) at the end. Assumes nothing.
--   verdict_text  how a verdict is printed
--   IsVerdict     a text is one of the two that are said of a run
--   sample_line   of a sample, with what is said of its run
--   ListsSamples  a text has a line for each of these names, in their order
-- What the files hold is not known, so that of a verdict no more is said.
use Rattle.std.specs.Prelude.{◌≡◌, ℕ, List, [], ◌∷◌, ◌++◌, ◌⊎◌, codes}
use Rattle.scan.specs.Texts.{line}
use Rattle.samples.specs.declared.said.Verdict.{Verdict}
use Rattle.samples.specs.declared.said.Verdict.TheVariants.{AsExpected, Differs}

abbrev pub verdict_text : Verdict → List ℕ
verdict_text AsExpected = codes "as expected"
verdict_text Differs = codes "DIFFERS"

abbrev pub IsVerdict : List ℕ → Type 0
IsVerdict v = (v ≡ codes "as expected") ⊎ (v ≡ codes "DIFFERS")

abbrev pub sample_line : List ℕ → List ℕ → List ℕ
sample_line name verdict = line (name ∷ verdict ∷ [])

abbrev pub ListsSamples : List (List ℕ) → List ℕ → Type 0
ListsSamples [] text = text ≡ []
ListsSamples (name ∷ names) text =
    (verdict : List ℕ) × IsVerdict verdict × (later : List ℕ) × (text ≡ sample_line name verdict ++ later) × ListsSamples names later

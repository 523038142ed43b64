-- Why no model is made. Assumes nothing.
--   number_of    the number of a refusal
--   place_of     the place that is out of range, if that is the reason
--   Refused      the three tables make no model for this reason, and for none that is asked before it
--   Checked      what a check of three tables answers; OnlyChecked says that no other answer fits
--   outcome      the answer of a check that gives more than that its numbers pass
--   Unjoinable   two models are not joined for this reason
use Rattle.std.specs.Prelude.{◌≡◌, ℕ, ◌+◌, ◌<◌, Some, None, Ok, Err, Option, Result}
use Rattle.models.specs.Tables.{Tables}
use Rattle.models.specs.Sound.{Counts, Lengths, FirstOut, Sound}
use Rattle.models.specs.declared.refusal.MakingRefusal.{MakingRefusal}
use Rattle.models.specs.declared.refusal.MakingRefusal.TheVariants.{WrongCounts, WrongLengths, OutOfRange, TooManyScenarios}

abbrev pub number_of : MakingRefusal → ℕ
number_of WrongCounts = 31
number_of WrongLengths = 32
number_of (OutOfRange place) = 33
number_of TooManyScenarios = 34

abbrev pub place_of : MakingRefusal → Option ℕ
place_of WrongCounts = None
place_of WrongLengths = None
place_of (OutOfRange place) = Some place
place_of TooManyScenarios = None

abbrev pub Refused : ℕ → ℕ → Tables → MakingRefusal → Type 0
Refused cells limit t WrongCounts = Counts t.sets t.scenarios → ⊥
Refused cells limit t WrongLengths = Counts t.sets t.scenarios × (Lengths cells t → ⊥)
Refused cells limit t (OutOfRange place) = Counts t.sets t.scenarios × Lengths cells t × FirstOut limit t place
Refused cells limit t TooManyScenarios = ⊥

abbrev pub Checked : ℕ → ℕ → Tables → Result (Unit {0}) MakingRefusal → Type 0
Checked cells limit t (Ok done) = Sound cells limit t
Checked cells limit t (Err reason) = Refused cells limit t reason

abbrev pub OnlyChecked : ℕ → ℕ → Tables → Result (Unit {0}) MakingRefusal → Type 0
OnlyChecked cells limit t r = (other : Result (Unit {0}) MakingRefusal) → Checked cells limit t other → other ≡ r

abbrev pub outcome : {X : Type 0} → Result X MakingRefusal → Result (Unit {0}) MakingRefusal
outcome (Ok x) = Ok tt
outcome (Err reason) = Err reason

abbrev pub Unjoinable : ℕ → ℕ → MakingRefusal → Type 0
Unjoinable first second reason = (reason ≡ TooManyScenarios) × (1000 < first + second)

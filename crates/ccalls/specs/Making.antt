-- What a check before a making answers. Assumes nothing.
--   making_number    0, or the number of the refusal
--   place_or, place_after   what is left at the place: a place that is out of range, or what was there
--   MakingAnswered   the check of three tables, answered n, with p at the place before and q after
--   joining_number   the check of the scenarios of two models
use Rattle.std.specs.Prelude.{◌≡◌, ℕ, ◌+◌, Some, None, Ok, Err, Option, Result, if◌then◌else◌, nat_le}
use Rattle.models.specs.Tables.{Tables}
use Rattle.models.specs.declared.refusal.MakingRefusal.{MakingRefusal}
use Rattle.models.specs.declared.refusal.MakingRefusal.TheVariants.{TooManyScenarios}
use Rattle.models.specs.Refusals.{number_of, place_of, Checked, OnlyChecked}

abbrev pub making_number : Result (Unit {0}) MakingRefusal → ℕ
making_number (Ok done) = 0
making_number (Err e) = number_of e

abbrev pub place_or : ℕ → Option ℕ → ℕ
place_or p None = p
place_or p (Some place) = place

abbrev pub place_after : ℕ → Result (Unit {0}) MakingRefusal → ℕ
place_after p (Ok done) = p
place_after p (Err e) = place_or p (place_of e)

-- r is what the check finds, and nothing else is
pub record MakingAnswered (cells limit : ℕ) (t : Tables) (p q n : ℕ) : Type 0 where
  pub found : Result (Unit {0}) MakingRefusal
  pub checked : Checked cells limit t found
  pub only : OnlyChecked cells limit t found
  pub number : n ≡ making_number found
  pub place : q ≡ place_after p found

abbrev pub joining_number : ℕ → ℕ → ℕ
joining_number first second = if nat_le (first + second) 1000 then 0 else number_of TooManyScenarios

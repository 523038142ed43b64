-- Refusals.
-- number_of: the number of each. asked: what one question comes to. Question: a test and the refusal that a no gives.
-- first_no: questions in their order, refused by the first no.
-- decided: what a call does where every question is answered yes, and otherwise. result_number: 0, or the number of the first no.
use Rattle.std.specs.Prelude.{ℕ, Bool, true, false, if◌then◌else◌, List, [], ◌∷◌, Ok, Err, Result}
use Rattle.refusals.specs.declared.refusal.Refusal.{Refusal}
use Rattle.refusals.specs.declared.refusal.Refusal.TheVariants.{Tables, NoAccount, WrongBenchmark, WrongSide, WrongNotional, WrongRate, WrongMaturity, NumberUsed, TooManyTrades, NotLower, NotCovered, NoTrade, WrongAmount, OverLimit, NotHeld, DrawnShort, NoSecurity, WrongLots, NoSet, WrongPrice, WrongStepUp, NoFamily, WrongAverages, WrongThresholds, WrongReturns, NoThresholds, WrongSlot, WrongMonth, WrongAccounts, WrongOpeningMonth}

abbrev pub number_of : Refusal → ℕ
number_of Tables = 1
number_of NoAccount = 2
number_of WrongBenchmark = 3
number_of WrongSide = 4
number_of WrongNotional = 5
number_of WrongRate = 6
number_of WrongMaturity = 7
number_of NumberUsed = 8
number_of TooManyTrades = 9
number_of NotLower = 10
number_of NotCovered = 11
number_of NoTrade = 12
number_of WrongAmount = 13
number_of OverLimit = 14
number_of NotHeld = 15
number_of DrawnShort = 16
number_of NoSecurity = 17
number_of WrongLots = 18
number_of NoSet = 19
number_of WrongPrice = 20
number_of WrongStepUp = 21
number_of NoFamily = 22
number_of WrongAverages = 23
number_of WrongThresholds = 24
number_of WrongReturns = 25
number_of NoThresholds = 26
number_of WrongSlot = 27
number_of WrongMonth = 28
number_of WrongAccounts = 29
number_of WrongOpeningMonth = 30

abbrev pub asked : Bool → Refusal → Result (Unit {0}) Refusal
asked true r = Ok tt
asked false r = Err r

abbrev pub Question : Type 0
Question = Bool × Refusal

abbrev pub first_no : List Question → Result (Unit {0}) Refusal
first_no [] = Ok tt
first_no (q ∷ qs) = if q.0 then first_no qs else Err q.1

abbrev pub decided : {X : Type 0} → Result (Unit {0}) Refusal → X → (Refusal → X) → X
decided (Ok x) accepted refused = accepted
decided (Err e) accepted refused = refused e

abbrev pub result_number : Result (Unit {0}) Refusal → ℕ
result_number (Ok x) = 0
result_number (Err e) = number_of e

-- What a margin model means, and which meanings are lawful. Assumes nothing.
--   Meaning   how many sets and scenarios a model has; and for each set s, benchmark b and residual r the rate,
--             the tick value, and in each scenario j the change: what one lakh of a pay-fixed swap gains, in paise
--   within    whether a model of so many sets has that set, benchmark and residual
--   Outside   it has not
--   Lawful    every number is within its limits, and outside of its counts a model answers 0
use Rattle.std.specs.Prelude.{◌≡◌, ℕ, ◌≤◌, Bool, ◌&&◌, ◌⊎◌, ℤ, pos, nat_lt, unsigned_abs}

pub record Meaning : Type 0 where
  pub sets : ℕ
  pub scenarios : ℕ
  pub rate : ℕ → ℕ → ℕ → ℕ
  pub tick : ℕ → ℕ → ℕ → ℕ
  pub change : ℕ → ℕ → ℕ → ℕ → ℤ

abbrev pub within : ℕ → ℕ → ℕ → ℕ → Bool
within count s b r = nat_lt s count && (nat_lt b 4 && nat_lt r 121)

abbrev pub Outside : ℕ → ℕ → ℕ → ℕ → Type 0
Outside count s b r = (count ≤ s) ⊎ ((4 ≤ b) ⊎ (121 ≤ r))

pub record Lawful (m : Meaning) : Type 0 where
  pub some_set : 1 ≤ m.sets
  pub few_sets : m.sets ≤ 8
  pub some_scenario : 1 ≤ m.scenarios
  pub few_scenarios : m.scenarios ≤ 1000
  pub rate_most : (s b r : ℕ) → m.rate s b r ≤ 200000
  pub tick_most : (s b r : ℕ) → m.tick s b r ≤ 100000
  pub change_most : (s b r j : ℕ) → unsigned_abs (m.change s b r j) ≤ 2000000
  pub rate_outside : (s b r : ℕ) → Outside m.sets s b r → m.rate s b r ≡ 0
  pub tick_outside : (s b r : ℕ) → Outside m.sets s b r → m.tick s b r ≡ 0
  pub change_outside : (s b r j : ℕ) → Outside m.sets s b r → m.change s b r j ≡ pos 0
  pub change_past : (s b r j : ℕ) → m.scenarios ≤ j → m.change s b r j ≡ pos 0

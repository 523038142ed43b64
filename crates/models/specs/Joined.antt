-- Two models as one: the scenarios of the first, then those of the second. Assumes nothing.
--   joint_sets        how many sets the joined model has
--   joint_scenarios   how many scenarios it has: those past 1,000 are left out
--   joint             the meaning of the joined model
--   Joins             the law that it keeps
use Rattle.std.specs.Prelude.{◌≡◌, ℕ, ◌+◌, ◌-◌, ◌<◌, ◌≤◌, min, cond, ◌&&◌, ◌⊎◌, pos, nat_lt}
use Rattle.models.specs.Meaning.{Meaning}

abbrev pub joint_sets : Meaning → Meaning → ℕ
joint_sets m n = min m.sets n.sets

abbrev pub joint_scenarios : Meaning → Meaning → ℕ
joint_scenarios m n = min (m.scenarios + n.scenarios) 1000

abbrev pub joint : Meaning → Meaning → Meaning
joint m n = record {
  sets = joint_sets m n;
  scenarios = joint_scenarios m n;
  rate = λ s b r. cond (nat_lt s (joint_sets m n)) (m.rate s b r) 0;
  tick = λ s b r. cond (nat_lt s (joint_sets m n)) (m.tick s b r) 0;
  change = λ s b r j.
      cond (nat_lt s (joint_sets m n) && nat_lt j (joint_scenarios m n))
      (cond (nat_lt j m.scenarios) (m.change s b r j) (n.change s b r (j - m.scenarios)))
      (pos 0);
}

-- j is m joined with n
pub record Joins (m n j : Meaning) : Type 0 where
  -- it has the smaller number of sets
  pub sets : j.sets ≡ min m.sets n.sets
  -- and the scenarios of both, up to 1,000
  pub scenarios : j.scenarios ≡ min (m.scenarios + n.scenarios) 1000
  -- rates and tick values are the first's
  pub rates : (s b r : ℕ) → s < j.sets → j.rate s b r ≡ m.rate s b r
  pub ticks : (s b r : ℕ) → s < j.sets → j.tick s b r ≡ m.tick s b r
  -- a scenario of the first keeps its number and its changes
  pub first : (s b r k : ℕ) → s < j.sets → k < m.scenarios → j.change s b r k ≡ m.change s b r k
  -- those of the second follow
  pub second : (s b r k : ℕ) → s < j.sets → m.scenarios + k < 1000 → j.change s b r (m.scenarios + k) ≡ n.change s b r k
  -- beyond its sets and scenarios all is 0
  pub no_rate : (s b r : ℕ) → j.sets ≤ s → j.rate s b r ≡ 0
  pub no_tick : (s b r : ℕ) → j.sets ≤ s → j.tick s b r ≡ 0
  pub no_change : (s b r k : ℕ) → (j.sets ≤ s) ⊎ (j.scenarios ≤ k) → j.change s b r k ≡ pos 0

-- The volatility check of a family: five returns against five triggers, in millionths.
-- exceeds, exceeding: 1 where a return exceeds its trigger, and how many do. ratio_at: the ratio of a return to its trigger.
-- higher, highest_upto, highest: the higher of two ratios, compared by cross multiplication, and the highest of the five.
-- rounded_to_five: a ratio in per cent, rounded up to a multiple of 5. tenths_of: the per cent that a ratio gives, in tenths.
-- charged: the per cent that a check gives.
-- Highest, RatioFound: what the check's optional ratio is.
use Rattle.std.specs.Prelude.{◌≡◌, ℕ, zero, suc, ◌+◌, ◌-◌, ◌*◌, ◌<◌, ◌≤◌, min, max, if◌then◌else◌, List, Some, None, Option, nat_le, nat_lt, slice_index}
use Rattle.tables.specs.Numbers.{rounded_up}
use Rattle.tail.specs.declared.ratio.Ratio.{Ratio}

abbrev pub exceeds : ℕ → ℕ → ℕ
exceeds return trigger = if nat_lt trigger return then 1 else 0

-- triggers first, then returns
abbrev pub exceeding : List ℕ → List ℕ → ℕ
exceeding ts rs =
    exceeds (slice_index rs 0) (slice_index ts 0)
    + exceeds (slice_index rs 1) (slice_index ts 1)
    + exceeds (slice_index rs 2) (slice_index ts 2)
    + exceeds (slice_index rs 3) (slice_index ts 3)
    + exceeds (slice_index rs 4) (slice_index ts 4)

-- a return over its trigger; triggers are at least 1
abbrev pub ratio_at : List ℕ → List ℕ → ℕ → ℕ × ℕ
ratio_at ts rs i = (slice_index rs i, max (slice_index ts i) 1)

abbrev pub higher : ℕ × ℕ → ℕ × ℕ → ℕ × ℕ
higher p q = if nat_le (q.0 * p.1) (p.0 * q.1) then p else q

-- the highest of r 0 to r n
abbrev pub highest_upto : (ℕ → ℕ × ℕ) → ℕ → ℕ × ℕ
highest_upto r zero = r 0
highest_upto r (suc n) = higher (highest_upto r n) (r (suc n))

abbrev pub highest : List ℕ → List ℕ → ℕ × ℕ
highest ts rs = highest_upto (ratio_at ts rs) 4

abbrev pub rounded_to_five : ℕ → ℕ → ℕ
rounded_to_five n d = 5 * rounded_up (20 * n) d

-- half of what the rounded ratio is above 100, at most 100 per cent
abbrev pub tenths_of : ℕ → ℕ → ℕ
tenths_of n d = min (5 * (rounded_to_five n d - 100)) 1000

-- 0 where fewer than two returns exceed their triggers
unfoldable pub charged : List ℕ → List ℕ → ℕ
charged ts rs = if nat_lt (exceeding ts rs) 2 then 0 else tenths_of (highest ts rs).0 (highest ts rs).1

-- q is one of the five ratios, and none of the five is above it
pub record Highest (ts rs : List ℕ) (q : Ratio) : Type 0 where
  pub place : ℕ
  pub within : place < 5
  pub num : q.num ≡ slice_index rs place
  pub den : q.den ≡ max (slice_index ts place) 1
  pub most : (i : ℕ) → i < 5 → slice_index rs i * q.den ≤ q.num * max (slice_index ts i) 1

abbrev pub RatioFound : List ℕ → List ℕ → Option Ratio → Type 0
RatioFound ts rs None = exceeding ts rs < 2
RatioFound ts rs (Some q) = (2 ≤ exceeding ts rs) × Highest ts rs q

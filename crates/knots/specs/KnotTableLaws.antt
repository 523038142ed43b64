-- Sound tables at the knots are a lawful model. Assumes nothing.
--   few                       a residual within the model is at most 120
--   number_most, shock_most   no number between knots is further from 0 than those at the knots may be
--   above_same                a number that is not negative is its own size
--   number_exact              a rate or tick value between knots is not negative
--   knot_table_lawful         the meaning of sound tables is lawful
use Rattle.std.specs.Prelude.{◌≡◌, ℕ, ◌+◌, ◌*◌, ◌≤◌, true, ◌&&◌, List, ℤ, pos, ◌≤ℤ◌, nat_lt, slice_index, slice_index_or, unsigned_abs}
use Rattle.std.proofs.Common.{arith, le-ltb, ltb-true}
use Rattle.std.proofs.lemmas.Bool.{and_left, and_right, cond-false, and_parts}
use Rattle.models.specs.Meaning.{Lawful, within}
use Rattle.models.specs.Tables.{Tables}
use Rattle.models.specs.SoundLaws.{rate_bound, tick_bound, change_bound}
use Rattle.models.specs.MeaningLaws.{masked_most, masked_size, not_within}
use Rattle.knots.specs.Knots.{low_place, high_place, neighbours_are}
use Rattle.std.proofs.lemmas.Int.{ints}
use Rattle.knots.specs.InterpolationLaws.{value_most, value_above, product_most, thousandth_most}
use Rattle.knots.specs.KnotTable.{row_at, number_at, shock_at, knot_table, KnotsSound}

few : (count s b r : ℕ) → within count s b r ≡ true → r ≤ 120
few count s b r t =
    let u = (and_parts (nat_lt b 4) (nat_lt r 121) (and_parts (nat_lt s count) (nat_lt b 4 && nat_lt r 121) t).1).1 in
    omega (arith, ltb-true r 121 u)

pub number_most : (xs : List ℕ) (base m most : ℕ) → ((k : ℕ) → slice_index xs k ≤ most) → m ≤ 120 → unsigned_abs (number_at xs base m) ≤ most
number_most xs base m most ok h =
    value_most (pos (slice_index xs (base + low_place m))) (pos (slice_index xs (base + high_place m))) m _ _ (neighbours_are m h) most (ok (base + low_place m)) (ok (base + high_place m))

above_same : (z : ℤ) → pos 0 ≤ℤ z → pos (unsigned_abs z) ≡ z
above_same z h = omega (arith, ints)

-- a number between knots is not negative, so that it is its own size
pub number_exact : (xs : List ℕ) (base m : ℕ) → m ≤ 120 → pos (unsigned_abs (number_at xs base m)) ≡ number_at xs base m
number_exact xs base m h =
    above_same (number_at xs base m)
    (value_above (pos (slice_index xs (base + low_place m))) (pos (slice_index xs (base + high_place m))) m _ _ (neighbours_are m h) (omega (arith, ints)) (omega (arith, ints)))

pub shock_most : (xs : List ℤ) (base runs j m : ℕ) → ((k : ℕ) → unsigned_abs (slice_index_or xs k (pos 0)) ≤ 20000) → m ≤ 120 → unsigned_abs (shock_at xs base runs j m) ≤ 20000
shock_most xs base runs j m ok h =
    value_most (slice_index_or xs ((base + low_place m) * runs + j) (pos 0)) (slice_index_or xs ((base + high_place m) * runs + j) (pos 0)) m _ _ (neighbours_are m h) 20000 (ok _) (ok _)

pub knot_table_lawful : (t : Tables) → KnotsSound t → Lawful (knot_table t)
knot_table_lawful t ok = record {
  some_set = ok.0.0;
  few_sets = ok.0.1;
  some_scenario = ok.0.2;
  few_scenarios = ok.0.3;
  rate_most = λ s b r. masked_most (within t.sets s b r) _ 200000 (λ w. number_most t.rates (row_at s b) r 200000 (rate_bound 20000 t ok.2) (few t.sets s b r w));
  tick_most = λ s b r. masked_most (within t.sets s b r) _ 100000 (λ w. number_most t.ticks (row_at s b) r 100000 (tick_bound 20000 t ok.2) (few t.sets s b r w));
  change_most = λ s b r j.
      masked_size (within t.sets s b r && nat_lt j t.scenarios) _ 2000000
      (λ w. let f = few t.sets s b r (and_parts (within t.sets s b r) (nat_lt j t.scenarios) w).0 in
      thousandth_most _ (product_most _ _ (number_most t.ticks (row_at s b) r 100000 (tick_bound 20000 t ok.2) f) (shock_most t.changes (row_at s b) t.scenarios j r (change_bound 20000 t ok.2) f)));
  rate_outside = λ s b r h. cond-false _ _ _ (not_within t.sets s b r h);
  tick_outside = λ s b r h. cond-false _ _ _ (not_within t.sets s b r h);
  change_outside = λ s b r j h. cond-false _ _ _ (and_left _ _ (not_within t.sets s b r h));
  change_past = λ s b r j h. cond-false _ _ _ (and_right (within t.sets s b r) _ (le-ltb j t.scenarios h));
}

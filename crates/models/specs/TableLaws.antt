-- Sound tables are a lawful model. Assumes nothing.
--   table_lawful   the meaning of sound tables is lawful
use Rattle.std.specs.Prelude.{◌&&◌, nat_lt}
use Rattle.std.proofs.Common.{le-ltb}
use Rattle.std.proofs.lemmas.Bool.{and_left, and_right, cond-false}
use Rattle.models.specs.Meaning.{Lawful, within}
use Rattle.models.specs.MeaningLaws.{masked_most, masked_size, not_within}
use Rattle.models.specs.SoundLaws.{rate_bound, tick_bound, change_bound}
use Rattle.models.specs.Tables.{Tables}
use Rattle.models.specs.Table.{TableSound, table}

pub table_lawful : (t : Tables) → TableSound t → Lawful (table t)
table_lawful t ok = record {
  some_set = ok.0.0;
  few_sets = ok.0.1;
  some_scenario = ok.0.2;
  few_scenarios = ok.0.3;
  rate_most = λ s b r. masked_most (within t.sets s b r) _ 200000 (λ _. rate_bound 2000000 t ok.2 _);
  tick_most = λ s b r. masked_most (within t.sets s b r) _ 100000 (λ _. tick_bound 2000000 t ok.2 _);
  change_most = λ s b r j. masked_size (within t.sets s b r && nat_lt j t.scenarios) _ 2000000 (λ _. change_bound 2000000 t ok.2 _);
  rate_outside = λ s b r h. cond-false _ _ _ (not_within t.sets s b r h);
  tick_outside = λ s b r h. cond-false _ _ _ (not_within t.sets s b r h);
  change_outside = λ s b r j h. cond-false _ _ _ (and_left _ _ (not_within t.sets s b r h));
  change_past = λ s b r j h. cond-false _ _ _ (and_right (within t.sets s b r) _ (le-ltb j t.scenarios h));
}

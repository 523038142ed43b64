-- The numbers that sound numbers lend are within their limits. Assumes nothing.
use Rattle.std.proofs.Common.{◌≡◌, ℕ, ◌≤◌, get_or, sym, subst}
use Rattle.models.specs.Tables.{Tables}
use Rattle.models.specs.Sound.{Ranges}
use Rattle.models.specs.SoundLaws.{rate_bound, tick_bound}
use Rattle.models.specs.Lent.{lent}
use Rattle.models.specs.declared.numbers.Numbers.{Numbers}

module _ (limit : ℕ) (n : Numbers) (t : Tables) (same : lent n ≡ t) (ok : Ranges limit t) where
  in_range : Ranges limit (lent n)
  in_range = subst (Ranges limit) (sym same) ok

  pub rates_held : (k : ℕ) → get_or n.rates.now k 0 ≤ 200000
  rates_held = rate_bound limit (lent n) in_range

  pub ticks_held : (k : ℕ) → get_or n.ticks.now k 0 ≤ 100000
  ticks_held = tick_bound limit (lent n) in_range

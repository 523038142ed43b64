-- The numbers of a model in their tables. Assumes nothing.
--   Tables   how many sets and scenarios; then rates, tick values, and changes (or shocks)
use Rattle.std.specs.Prelude.{ℕ, List, ℤ}

pub record Tables : Type 0 where
  pub sets : ℕ
  pub scenarios : ℕ
  pub rates : List ℕ
  pub ticks : List ℕ
  pub changes : List ℤ

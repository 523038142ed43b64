-- Which tables of numbers make a model. Assumes nothing.
-- A model has three tables, in this order: rates, tick values, changes (or shocks).
-- `cells` is how many rates, tick values, and changes in one scenario, a set has.
-- `limit` is how far from 0 a number of the last table may be.
--   Counts      how many sets and scenarios a model may have
--   Lengths     the tables are exactly as long as sets and scenarios ask
--   in_range    whether the number at a place is in range; places count from 0 through the three tables
--   marks       for each number, through the three tables, whether it is in range
--   Ranges      the number at every place is in range
--   FirstOut    the first place whose number is out of range
--   Sound       counts, lengths and numbers are as they must be
use Rattle.std.specs.Prelude.{◌≡◌, ℕ, ◌*◌, ◌<◌, ◌≤◌, Bool, true, false, List, ◌++◌, map, length, nat_le, slice_index_or, unsigned_abs}
use Rattle.models.specs.Tables.{Tables}

abbrev pub Counts : ℕ → ℕ → Type 0
Counts sets scenarios = (1 ≤ sets) × (sets ≤ 8) × (1 ≤ scenarios) × (scenarios ≤ 1000)

abbrev pub Lengths : ℕ → Tables → Type 0
Lengths cells t =
    (length t.rates ≡ cells * t.sets) × (length t.ticks ≡ cells * t.sets) × (length t.changes ≡ cells * t.sets * t.scenarios)

abbrev pub marks : ℕ → Tables → List Bool
marks limit t =
    map (λ rate. nat_le rate 200000) t.rates
    ++ (map (λ tick. nat_le tick 100000) t.ticks ++ map (λ change. nat_le (unsigned_abs change) limit) t.changes)

abbrev pub in_range : ℕ → Tables → ℕ → Bool
in_range limit t k = slice_index_or (marks limit t) k true

abbrev pub Ranges : ℕ → Tables → Type 0
Ranges limit t = (k : ℕ) → in_range limit t k ≡ true

abbrev pub FirstOut : ℕ → Tables → ℕ → Type 0
FirstOut limit t i = (in_range limit t i ≡ false) × ((k : ℕ) → k < i → in_range limit t k ≡ true)

abbrev pub Sound : ℕ → ℕ → Tables → Type 0
Sound cells limit t = Counts t.sets t.scenarios × Lengths cells t × Ranges limit t

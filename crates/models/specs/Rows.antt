-- A row of changes: lent where it lies, or else written into a room. Assumes nothing.
--   Row             the list has so many places, and at each the change that a function gives for it
--   LentOrWritten   what holds of the row that is lent, or if none is, of what was written
use Rattle.std.specs.Prelude.{◌≡◌, ℕ, ◌<◌, List, length, ℤ, pos, slice_index_or, Option, MatchOption}
use denote.Ref.{Bor}

abbrev pub Row : (ℕ → ℤ) → ℕ → List ℤ → Type 0
Row change count row = (length row ≡ count) × ((j : ℕ) → j < count → slice_index_or row j (pos 0) ≡ change j)

abbrev pub LentOrWritten : (List ℤ → Type 0) → Option (Bor (List ℤ)) → List ℤ → Type 0
LentOrWritten P lent written = MatchOption lent (P written) (λ row. P row.now)

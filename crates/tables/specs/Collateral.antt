-- What lodged securities count for.
-- lots_value: lots × price × (100 − haircut); nil where the security is not listed.
use Rattle.std.specs.Prelude.{ℕ, ◌-◌, ◌*◌, if◌then◌else◌}
use Rattle.tables.specs.declared.row.SecurityRow.{SecurityRow}

-- a lot is Rs 10,000 face and the price is paise per Rs 100, so that a lot is worth 100 × price before the haircut in per cent
abbrev pub lots_value : ℕ → SecurityRow → ℕ
lots_value n s = if s.listed then n * s.price * (100 - s.haircut) else 0

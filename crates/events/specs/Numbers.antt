-- Numbers of several bytes, the lowest byte first.
--   u8_at, u16_at, u32_at, u64_at    the number of one, two, four and eight bytes at a place
use Rattle.std.specs.Prelude.{ℕ, ◌+◌, ◌*◌, List, slice_index}

abbrev pub u8_at : List ℕ → ℕ → ℕ
u8_at bs i = slice_index bs i

abbrev pub u16_at : List ℕ → ℕ → ℕ
u16_at bs i = slice_index bs i + 256 * slice_index bs (i + 1)

abbrev pub u32_at : List ℕ → ℕ → ℕ
u32_at bs i = u16_at bs i + 65536 * u16_at bs (i + 2)

abbrev pub u64_at : List ℕ → ℕ → ℕ
u64_at bs i = u32_at bs i + 4294967296 * u32_at bs (i + 4)

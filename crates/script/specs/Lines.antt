-- The lines of a script. Assumes nothing.
--   before        how many bytes stand before the first such byte
--   uncommented   a line without its comment, which begins with the first number sign (35)
--   line_of       the first line of a text, without its line feed (10)
--   lines_after   what follows the first line and its line feed
use Rattle.std.specs.Prelude.{ℕ, List, take, drop, ◌==◌}
use Rattle.std.specs.List.{position_or_len}

abbrev pub before : ℕ → List ℕ → ℕ
before m bs = position_or_len (λ b. b == m) bs

abbrev pub uncommented : List ℕ → List ℕ
uncommented bs = take (before 35 bs) bs

abbrev pub line_of : List ℕ → List ℕ
line_of bs = take (before 10 bs) bs

abbrev pub lines_after : List ℕ → List ℕ
lines_after bs = drop 1 (drop (before 10 bs) bs)

-- The numbers that stand first in a text, and how they are held. Assumes nothing.
--   taken_by    a number put before those after it; none where the word is no number
--   taken       the numbers that stand first, at most so many
--   left        what follows them
--   as_size     a number as a rate, a tick value or a count is held; one that does not fit is held as
--               4,294,967,295, which is out of range
--   size_by     such a number, if there is one
--   as_change   a number as a change or shock is held; one that does not fit is held as 2,147,483,647,
--               which is out of range
use Rattle.std.specs.Prelude.{ℕ, zero, suc, min, cond, List, [], ◌∷◌, ℤ, pos, negsuc, Some, None, Option, nat_le, unsigned_abs}
use Rattle.scan.specs.Number.{number_of}
use Rattle.scan.specs.Words.{word_of, rest_of, after_by}

abbrev pub taken_by : Option ℤ → List ℤ → List ℤ
taken_by None zs = []
taken_by (Some z) zs = z ∷ zs

abbrev pub taken : ℕ → List ℕ → List ℤ
taken zero bs = []
taken (suc f) bs = taken_by (number_of (word_of bs)) (taken f (rest_of bs))

abbrev pub left : ℕ → List ℕ → List ℕ
left zero bs = bs
left (suc f) bs = after_by (number_of (word_of bs)) bs (left f (rest_of bs))

abbrev pub as_size : ℤ → ℕ
as_size (pos n) = min n 4294967295
as_size (negsuc n) = 4294967295

abbrev pub size_by : Option ℤ → Option ℕ
size_by None = None
size_by (Some z) = Some (as_size z)

abbrev pub as_change : ℤ → ℤ
as_change z = cond (nat_le (unsigned_abs z) 2147483647) z (pos 2147483647)

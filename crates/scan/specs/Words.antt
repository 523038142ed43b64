-- The words of a text. Assumes nothing.
--   blank             a byte that parts words: the space and every control
--   blanks, letters   how many blanks stand first, and how many bytes before the first blank
--   word_of           the first word; it is empty where the text has none
--   rest_of           what follows the first word
--   after_by          a text, or what comes after, where there is a number
--   after_number      what follows the first word where it is a number, else the text
use Rattle.std.specs.Prelude.{ℕ, Bool, List, take, drop, ℤ, Some, None, Option, nat_le}
use Rattle.std.specs.List.{prefix_len, position_or_len}
use Rattle.scan.specs.Number.{number_of}

abbrev pub blank : ℕ → Bool
blank b = nat_le b 32

abbrev pub blanks : List ℕ → ℕ
blanks bs = prefix_len blank bs

abbrev pub letters : List ℕ → ℕ
letters bs = position_or_len blank bs

abbrev pub word_of : List ℕ → List ℕ
word_of bs = take (letters (drop (blanks bs) bs)) (drop (blanks bs) bs)

abbrev pub rest_of : List ℕ → List ℕ
rest_of bs = drop (letters (drop (blanks bs) bs)) (drop (blanks bs) bs)

abbrev pub after_by : Option ℤ → List ℕ → List ℕ → List ℕ
after_by None bs after = bs
after_by (Some z) bs after = after

abbrev pub after_number : List ℕ → List ℕ
after_number bs = after_by (number_of (word_of bs)) bs (rest_of bs)

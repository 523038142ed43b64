-- Decimal numbers, and what they stand for. Assumes nothing.
--   digit, digits   a byte that is a digit; bytes that are all digits
--   decimal         the value of digits that follow digits of value n
--   cap             2^64; a larger number reads as it
--   magnitude_of    the number that one or more digits write
--   minus           whether a word begins with a minus
--   signed          such a number with its sign
--   number_of       the number that a word writes, if it is one: a minus or none, then one or more digits
--   step, read_on   one digit more, and digits after a number already read: how a reader goes on
use Rattle.std.specs.Prelude.{ℕ, ◌+◌, ◌-◌, ◌*◌, min, Bool, if◌then◌else◌, ◌&&◌, List, [], ◌∷◌, length, drop, ℤ, pos, neg_ℤ, Some, None, Option, ◌==◌, nat_le, nat_lt, slice_index}
use Rattle.std.specs.List.{list_all}

abbrev pub digit : ℕ → Bool
digit b = nat_le 48 b && nat_le b 57

abbrev pub digits : List ℕ → Bool
digits bs = list_all digit bs

abbrev pub decimal : ℕ → List ℕ → ℕ
decimal n [] = n
decimal n (b ∷ bs) = decimal (n * 10 + (b - 48)) bs

abbrev pub cap : ℕ
cap = 18446744073709551616

abbrev pub step : ℕ → ℕ → ℕ
step n b = min (n * 10 + (b - 48)) cap

abbrev pub read_on : ℕ → List ℕ → Option ℕ
read_on n bs = if digits bs then Some (min (decimal n bs) cap) else None

abbrev pub magnitude_of : List ℕ → Option ℕ
magnitude_of ds = if length ds == 0 then None else read_on 0 ds

abbrev pub minus : List ℕ → Bool
minus w = nat_lt 0 (length w) && slice_index w 0 == 45

abbrev pub signed : Bool → Option ℕ → Option ℤ
signed negative None = None
signed negative (Some n) = Some (if negative then neg_ℤ (pos n) else pos n)

abbrev pub number_of : List ℕ → Option ℤ
number_of w = signed (minus w) (magnitude_of (if minus w then drop 1 w else w))

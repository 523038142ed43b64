-- The fields of a line. Assumes nothing.
--   Field         what a field may be: a number up to a highest one (`upto`), or a `name`
--   bits8, bits16, bits32, bits64   the four widths
--   then          goes on with a value, unless there is a reason against it (so no `if ..then ..else` here: `then` is that name's part)
--   within        a number up to a highest one, or why it is none
--   number_field  the number that a word gives for a field that holds numbers up to `most`
--   name_field    a name may be any word; it gives no number, but stands as 0
--   Converts      what a conversion of a word's number gives as a field
--   field_of      the number that a word gives for a field
--   Taken, put    the numbers of fields and the text after them; one number put before the others
--   fields_of     the fields that stand first in a text, read from left to right, and what follows them;
--                 the first that fails decides
--   Reads         whether what was read is what such fields say
use Rattle.std.specs.Prelude.{◌≡◌, ℕ, cond, List, [], ◌∷◌, length, ℤ, pos, negsuc, Some, None, Ok, Err, Option, Result, MatchResult, ◌==◌, nat_le}
use Rattle.scan.specs.Number.{number_of}
use Rattle.scan.specs.Words.{word_of, rest_of}
use Rattle.script.specs.declared.reason.Reason.{Reason}
use Rattle.script.specs.declared.reason.Reason.TheVariants.{MissingNumber, NotNumber, Negative, TooLarge, MissingName}

pub data Field : Type 0 where
  upto : ℕ → Field
  name : Field

abbrev pub bits8 : Field
bits8 = upto 255

abbrev pub bits16 : Field
bits16 = upto 65535

abbrev pub bits32 : Field
bits32 = upto 4294967295

abbrev pub bits64 : Field
bits64 = upto 18446744073709551615

abbrev pub then : {X Y : Type 0} → Result X Reason → (X → Result Y Reason) → Result Y Reason
then (Ok x) f = f x
then (Err e) f = Err e

abbrev pub within : ℕ → Option ℤ → Result ℕ Reason
within most None = Err NotNumber
within most (Some (pos n)) = cond (nat_le n most) (Ok n) (Err TooLarge)
within most (Some (negsuc n)) = Err Negative

unfoldable pub number_field : ℕ → List ℕ → Result ℕ Reason
number_field most w = cond (length w == 0) (Err MissingNumber) (within most (number_of w))

abbrev pub Converts : {T E : Type 0} → (ℤ → Result T E → Type 0) → Option ℤ → Result T Reason → Type 0
Converts gives None r = r ≡ Err NotNumber
Converts gives (Some (negsuc n)) r = r ≡ Err Negative
Converts {T} {E} gives (Some (pos n)) r = MatchResult r (λ x. gives (pos n) (Ok x)) (λ e. (e ≡ TooLarge) × ((why : E) × gives (pos n) (Err why)))

unfoldable pub name_field : List ℕ → Result ℕ Reason
name_field w = cond (length w == 0) (Err MissingName) (Ok 0)

abbrev pub field_of : Field → List ℕ → Result ℕ Reason
field_of (upto most) w = number_field most w
field_of name w = name_field w

-- the numbers of fields, and the text after them
abbrev pub Taken : Type 0
Taken = List ℕ × List ℕ

-- one number before the others
abbrev pub put : ℕ → Taken → Result Taken Reason
put x t = Ok (x ∷ t.0, t.1)

unfoldable pub fields_of : List Field → List ℕ → Result Taken Reason
fields_of [] bs = Ok ([], bs)
fields_of (f ∷ fs) bs = then (field_of f (word_of bs)) (λ x. then (fields_of fs (rest_of bs)) (put x))

abbrev pub Reads : {T : Type 0} → List Field → (T → List ℕ) → List ℕ → Result T Reason → List ℕ → Type 0
Reads fs numbers bs r rest = MatchResult r (λ x. fields_of fs bs ≡ Ok (numbers x, rest)) (λ e. fields_of fs bs ≡ Err e)

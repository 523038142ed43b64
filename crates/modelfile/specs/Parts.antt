-- What a text says of one model. Assumes nothing.
--   Answer        what a text gives: it `means` a model's meaning, its numbers are `refused`, or it is no model's
--                 text: `malformed`
--   Part          what its words and numbers are for one model: `stopped` with an answer, or the `numbers` of a
--                 kind of model and the text after them
--   counts_fit    whether a model may have so many sets and scenarios: the test of the fact `Counts` of crate `models`,
--                 since a part is worked out by a test and no fact decides between two
--   followed, followed_by   a part, unless one number more comes after it (a wrong length) or a word that is no name
--                 (malformed); by that word, and by the text after it
--   tables_of     the three tables in the numbers that stand first: rates and tick values of one size, changes of
--                 another, fewer where the text has fewer
--   tables_after  those of a kind of model with so many sets and scenarios
--   sized         the same, if the counts fit
--   counted       the same, if both counts are there
--   count_of      the first word of a text as a count, if it is a number
--   named_part    the part after a name: two counts, and the tables
--   part_of       the part that stands first in a text: a name, two counts, and the numbers of three tables
--   Makes         the numbers of a part make a model of this meaning, with this text after it
--   EndsWith      a part ends with this answer: it stopped with it, or its numbers are refused with it
use Rattle.std.specs.Prelude.{◌≡◌, ℕ, ◌*◌, Bool, cond, ◌&&◌, List, map, ℤ, Some, None, Option, nat_le}
use Rattle.models.specs.Meaning.{Meaning}
use Rattle.models.specs.Tables.{Tables}
use Rattle.models.specs.declared.refusal.MakingRefusal.{MakingRefusal}
use Rattle.models.specs.declared.refusal.MakingRefusal.TheVariants.{WrongCounts, WrongLengths}
use Rattle.scan.specs.Number.{number_of}
use Rattle.scan.specs.Words.{word_of, rest_of, after_number}
use Rattle.modelfile.specs.Kinds.{kind_of, cells_of, meaning_of, SoundOf, RefusedOf, fits}
use Rattle.modelfile.specs.Taken.{taken, left, as_size, size_by, as_change}
use Rattle.modelfile.specs.declared.kind.Kind.{Kind}

pub data Answer : Type 0 where
  means : Meaning → Answer
  refused : MakingRefusal → Answer
  malformed : Answer

pub data Part : Type 0 where
  stopped : Answer → Part
  numbers : Kind → Tables → List ℕ → Part

abbrev pub counts_fit : ℕ → ℕ → Bool
counts_fit s n = nat_le 1 s && (nat_le s 8 && (nat_le 1 n && nat_le n 1000))

-- a number after all the numbers is one too many; else a name or the end must follow
abbrev pub followed : Option ℤ → Bool → Part → Part
followed (Some z) fit p = stopped (refused WrongLengths)
followed None fit p = cond fit p (stopped malformed)

abbrev pub followed_by : List ℕ → Part → Part
followed_by bs p = followed (number_of (word_of bs)) (fits (word_of bs)) p

-- tables of size and volume numbers, that may be too few
unfoldable pub tables_of : Kind → ℕ → ℕ → ℕ → ℕ → List ℕ → Part
tables_of k s n size volume bs =
    followed_by (left volume (left size (left size bs)))
    (numbers k (record {
      sets = s;
      scenarios = n;
      rates = map as_size (taken size bs);
      ticks = map as_size (taken size (left size bs));
      changes = map as_change (taken volume (left size (left size bs)));
    }) (left volume (left size (left size bs))))

-- the tables of a model of s sets and n scenarios
abbrev pub tables_after : Kind → ℕ → ℕ → List ℕ → Part
tables_after k s n bs = tables_of k s n (cells_of k * s) (cells_of k * s * n) bs

abbrev pub sized : Kind → ℕ → ℕ → List ℕ → Part
sized k s n bs = cond (counts_fit s n) (tables_after k s n bs) (stopped (refused WrongCounts))

abbrev pub counted : Kind → Option ℕ → Option ℕ → List ℕ → Part
counted k None n bs = stopped malformed
counted k (Some s) None bs = stopped malformed
counted k (Some s) (Some n) bs = sized k s n bs

-- the first word of a text as a count
abbrev pub count_of : List ℕ → Option ℕ
count_of bs = size_by (number_of (word_of bs))

abbrev pub named_part : Option Kind → List ℕ → Part
named_part None bs = stopped malformed
named_part (Some k) bs = counted k (count_of bs) (count_of (after_number bs)) (after_number (after_number bs))

unfoldable pub part_of : List ℕ → Part
part_of bs = named_part (kind_of (word_of bs)) (rest_of bs)

abbrev pub Makes : Part → Meaning → List ℕ → Type 0
Makes (stopped a) m after = ⊥
Makes (numbers k t rest) m after = SoundOf k t × (m ≡ meaning_of k t) × (after ≡ rest)

abbrev pub EndsWith : Part → Answer → Type 0
EndsWith (stopped a) b = b ≡ a
EndsWith (numbers k t rest) (means m) = ⊥
EndsWith (numbers k t rest) (refused r) = RefusedOf k t r
EndsWith (numbers k t rest) malformed = ⊥

-- The names of models, and what they ask. Assumes nothing.
--   kind_of       the kind of model that a word names
--   cells_of      how many rates a set has
--   limit_of      how far from 0 a number of the last table may be
--   meaning_of    the meaning of three tables, the last of them changes or shocks
--   SoundOf       the tables make such a model
--   RefusedOf     they make none, for this reason
--   is_some       whether a word named a kind
--   fits          whether a word may stand after the numbers of a model: a name, or none at the end
use Rattle.std.specs.Prelude.{ℕ, Bool, true, false, ◌||◌, List, length, Some, None, codes, Option, ◌==◌, if◌then◌else◌}
use Rattle.std.specs.Str.{bytes_eq}
use Rattle.models.specs.Meaning.{Meaning}
use Rattle.models.specs.Refusals.{Refused}
use Rattle.models.specs.Sound.{Sound}
use Rattle.models.specs.Tables.{Tables}
use Rattle.models.specs.Table.{table}
use Rattle.models.specs.declared.refusal.MakingRefusal.{MakingRefusal}
use Rattle.knots.specs.KnotTable.{knot_table}
use Rattle.modelfile.specs.declared.kind.Kind.{Kind}
use Rattle.modelfile.specs.declared.kind.Kind.TheVariants.{Table, Knots}

abbrev pub kind_of : List ℕ → Option Kind
kind_of w = if bytes_eq w (codes "table") then Some Table else if bytes_eq w (codes "knot") then Some Knots else None

abbrev pub cells_of : Kind → ℕ
cells_of Table = 484
cells_of Knots = 48

abbrev pub limit_of : Kind → ℕ
limit_of Table = 2000000
limit_of Knots = 20000

abbrev pub meaning_of : Kind → Tables → Meaning
meaning_of Table t = table t
meaning_of Knots t = knot_table t

abbrev pub SoundOf : Kind → Tables → Type 0
SoundOf k t = Sound (cells_of k) (limit_of k) t

abbrev pub RefusedOf : Kind → Tables → MakingRefusal → Type 0
RefusedOf k t r = Refused (cells_of k) (limit_of k) t r

abbrev pub is_some : Option Kind → Bool
is_some None = false
is_some (Some k) = true

abbrev pub fits : List ℕ → Bool
fits w = length w == 0 || is_some (kind_of w)

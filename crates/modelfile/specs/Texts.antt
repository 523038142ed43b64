-- What a text gives. Assumes nothing.
--   Then           the answer of a part, and where its numbers make a model, of what is asked next of its
--                  meaning and the text after it
--   ending         the answer of a model that is last: no word may be left
--   joining        the answer of two models that are joined: at most 1,000 scenarios together, and no word left
--   One            what the text of one model gives
--   Second, Two    what the text of two models gives, from the second on, and in all
--   GivesBy        what a text gives, by whether its first word is `joined`
--   Gives          what a text gives: the questions are asked in the order of the text, and the first no is
--                  the answer
--   UnlessMemory   what a refusal says, unless memory was lacking
use Rattle.std.specs.Prelude.{◌≡◌, ℕ, ◌+◌, Bool, true, false, cond, ◌⊎◌, List, length, codes, ◌==◌, nat_le}
use Rattle.std.specs.Str.{bytes_eq}
use Rattle.models.specs.Joined.{joint}
use Rattle.models.specs.Meaning.{Meaning}
use Rattle.models.specs.declared.refusal.MakingRefusal.TheVariants.{TooManyScenarios}
use Rattle.scan.specs.Words.{word_of, rest_of}
use Rattle.modelfile.specs.Parts.{Answer, means, refused, malformed, Part, part_of, Makes, EndsWith}
use Rattle.modelfile.specs.declared.refusal.LoadRefusal.{LoadRefusal}
use Rattle.modelfile.specs.declared.refusal.LoadRefusal.TheVariants.{Making, Malformed, Memory}

abbrev pub Then : Part → (Meaning → List ℕ → Answer → Type 0) → Answer → Type 0
Then p next a = EndsWith p a ⊎ ((m : Meaning) × ((after : List ℕ) × (Makes p m after × next m after a)))

abbrev pub ending : Meaning → List ℕ → Answer
ending m after = cond (length (word_of after) == 0) (means m) malformed

abbrev pub joining : Meaning → Meaning → List ℕ → Answer
joining f g after = cond (nat_le (f.scenarios + g.scenarios) 1000) (ending (joint f g) after) (refused TooManyScenarios)

-- a text of one model
abbrev pub One : List ℕ → Answer → Type 0
One bs a = Then (part_of bs) (λ m after b. b ≡ ending m after) a

-- two models, after the word `joined`
abbrev pub Second : Meaning → List ℕ → Answer → Type 0
Second f bs a = Then (part_of bs) (λ g after b. b ≡ joining f g after) a

abbrev pub Two : List ℕ → Answer → Type 0
Two bs a = Then (part_of bs) (λ f mid b. Second f mid b) a

abbrev pub GivesBy : Bool → List ℕ → Answer → Type 0
GivesBy true bs a = Two (rest_of bs) a
GivesBy false bs a = One bs a

abbrev pub Gives : List ℕ → Answer → Type 0
Gives bs a = GivesBy (bytes_eq (word_of bs) (codes "joined")) bs a

abbrev pub UnlessMemory : LoadRefusal → (Answer → Type 0) → Type 0
UnlessMemory (Making r) P = P (refused r)
UnlessMemory Malformed P = P malformed
UnlessMemory Memory P = Unit {0}

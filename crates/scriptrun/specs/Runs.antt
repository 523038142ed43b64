-- What a script prints. Assumes nothing.
--   lines_in   the lines of a text of at most k bytes; lines_of   of any text
--   Prints     lines, numbered from n and played where h is held, print a text: each what is said to it, which is what `Plays` says
--   IsTranscript   a text is what a script may print: its lines, numbered from 1 and played on a new session
-- What the files of models hold, and want of memory, are the only freedom.
use Rattle.std.specs.Prelude.{◌≡◌, ℕ, zero, suc, ◌+◌, List, [], ◌∷◌, ◌++◌, length}
use Rattle.script.specs.Lines.{line_of, lines_after}
use Rattle.session.specs.Held.{Held, first_held}
use Rattle.session.specs.Lines.{Reply, Plays}
use Rattle.scriptrun.specs.Lines.{said_text}

abbrev pub lines_in : ℕ → List ℕ → List (List ℕ)
lines_in zero bs = []
lines_in (suc k) [] = []
lines_in (suc k) (b ∷ bs) = line_of (b ∷ bs) ∷ lines_in k (lines_after (b ∷ bs))

abbrev pub lines_of : List ℕ → List (List ℕ)
lines_of bs = lines_in (length bs) bs

abbrev pub Prints : ℕ → List (List ℕ) → Held → List ℕ → Type 0
Prints n [] h text = text ≡ []
Prints n (line ∷ lines) h text =
    (r : Reply) × (k : Held) × Plays line h r k
    × (later : List ℕ) × (text ≡ said_text n k r ++ later) × Prints (n + 1) lines k later

abbrev pub IsTranscript : List ℕ → List ℕ → Type 0
IsTranscript script text = Prints 1 (lines_of script) first_held text

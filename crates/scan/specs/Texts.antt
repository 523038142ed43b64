-- Texts that are written. Assumes nothing.
--   line    words with a blank (byte 32) between two, and a line feed (10) at the end
--   Gains   where a call that writes to a text succeeds, the text has gained these bytes at its end
use Rattle.std.specs.Prelude.{◌≡◌, ℕ, List, [], ◌∷◌, ◌++◌, Result, String, string_bytes, OnOk}
use Rattle.std.specs.List.{join_with_byte}

abbrev pub line : List (List ℕ) → List ℕ
line words = join_with_byte 32 words ++ 10 ∷ []

abbrev pub Gains : {T E A : Type 0} → Result T E → String A → String A → List ℕ → Type 0
Gains result old new bytes = OnOk result (string_bytes new ≡ string_bytes old ++ bytes)

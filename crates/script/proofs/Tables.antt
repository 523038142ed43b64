-- Words looked up in one table after the other.
use Rattle.std.proofs.Common.{◌≡◌, ℕ, Bool, true, false, cond, List, [], ◌∷◌, ◌++◌, map, Some, None, Option, refl, ap, ◌∙◌}
use Rattle.std.specs.List.{find}
use Rattle.std.specs.Option.{ok_or}
use Rattle.std.specs.Result.{result_ok}
use Rattle.std.specs.Str.{bytes_eq}
use Rattle.script.specs.declared.word.Word.{Word}
use Rattle.script.specs.declared.word.Word.TheVariants.{Open, Model, Trade, End, LodgeCash, DrawCash, LodgeSecurity, DrawSecurity, Show, Set, Price, StepUp, Averages, Thresholds, Check, Close, Month, Report}
use Rattle.script.specs.Words.{word_text, Written, account_words, collateral_words, market_words, session_words, looked_up, or_else, account_word, collateral_word, market_word, session_word, word_named}

abbrev pub all : List Word
all =
    Trade ∷ End ∷ Show ∷ LodgeCash ∷ DrawCash ∷ LodgeSecurity ∷ DrawSecurity ∷ Set ∷ Price ∷ StepUp ∷ Averages ∷ Thresholds ∷ Check ∷ Close ∷ Month
    ∷ Open ∷ Model ∷ Report ∷ []

abbrev written : Word → Written
written w = (word_text w, w)

found : (t : List ℕ) (ws : List Word) → find (λ w. bytes_eq t (word_text w)) ws ≡ looked_up t (map written ws)
found t [] = refl
found t (w ∷ ws) = ap (λ o. cond (bytes_eq t (word_text w)) (Some w) o) (found t ws)

else_by : (b : Bool) (w : Word) (o p : Option Word) → cond b (Some w) (or_else o p) ≡ or_else (cond b (Some w) o) p
else_by true w o p = refl
else_by false w o p = refl

joined : (t : List ℕ) (ps qs : List Written) → looked_up t (ps ++ qs) ≡ or_else (looked_up t ps) (looked_up t qs)
joined t [] qs = refl
joined t (p ∷ ps) qs = ap (λ o. cond (bytes_eq t p.0) (Some p.1) o) (joined t ps qs) ∙ else_by (bytes_eq t p.0) p.1 (looked_up t ps) (looked_up t qs)

pub named : (t : List ℕ) → find (λ w. bytes_eq t (word_text w)) all ≡ word_named t
unfolding account_word collateral_word market_word session_word word_named
named t =
    found t all ∙ joined t account_words (collateral_words ++ (market_words ++ session_words))
    ∙ ap (or_else (looked_up t account_words)) (joined t collateral_words (market_words ++ session_words))
    ∙ ap (λ o. or_else (looked_up t account_words) (or_else (looked_up t collateral_words) o)) (joined t market_words session_words)

-- what an `Option` has, as a `Result` has it
pub kept : {A E : Type 0} → (o : Option A) (e : E) → result_ok (ok_or o e) ≡ o
kept None e = refl
kept (Some a) e = refl

-- The first number out of range, by its mark. Assumes nothing.
use Rattle.std.proofs.Common.{◌≡◌, ℕ, zero, suc, ◌<◌, ◌≤◌, Bool, true, false, not, cond, List, [], ◌∷◌, length, get_or, refl, sym, Some, None, Option, MatchOption, arith}
use Rattle.std.proofs.lemmas.Bool.{ltb-false}
use Rattle.std.proofs.lemmas.List.Quantifiers.{position-Some}
use Rattle.std.specs.List.{position, position_or_len}
use Rattle.models.specs.SoundLaws.{AllTrue}

not_false : (b : Bool) → not b ≡ false → b ≡ true
not_false true h = refl
not_false false h = absurd (cc)

not_true : (b : Bool) → not b ≡ true → b ≡ false
not_true true h = absurd (cc)
not_true false h = refl

past : (vs : List Bool) → length vs ≤ position_or_len not vs → AllTrue vs
past [] h k = refl
past (true ∷ vs) h zero = refl
past (true ∷ vs) h (suc k) = past vs (omega arith) k
past (false ∷ vs) h k = absurd (omega arith)

reaches : (b : Bool) (i : ℕ) → cond b (Some i) None ≡ None → b ≡ false
reaches true i e = absurd (cc)
reaches false i e = refl

-- the place of the first mark that is false
pub first_false : (vs : List Bool) (r : Option ℕ) → r ≡ position not vs
    → MatchOption r (AllTrue vs) (λ i. (get_or vs i true ≡ false) × ((k : ℕ) → k < i → get_or vs k true ≡ true))
first_false vs None e = past vs (ltb-false _ _ (reaches _ (position_or_len not vs) (sym e)))
first_false vs (Some i) e =
    let at = position-Some not vs i true (sym e) in
    (not_true (get_or vs i true) at.1, λ k l. not_false (get_or vs k true) (at.2 k l))

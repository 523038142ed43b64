-- Numbers that are 0 outside of a model. Assumes nothing.
--   masked_most, masked_size   what is within a limit where a test holds, and 0 elsewhere, is within it
--   not_within                 what is outside is not within
use Rattle.std.specs.Prelude.{◌≡◌, ℕ, ◌≤◌, Bool, true, false, cond, ℤ, pos, nat_lt, unsigned_abs, refl}
use Rattle.std.proofs.Common.{⊎_elim, arith, le-ltb}
use Rattle.std.proofs.lemmas.Bool.{and_left, and_right}
use Rattle.models.specs.Meaning.{Outside, within}

pub masked_most : (t : Bool) (x most : ℕ) → (t ≡ true → x ≤ most) → cond t x 0 ≤ most
masked_most true x most h = h refl
masked_most false x most h = omega arith

pub masked_size : (t : Bool) (x : ℤ) (most : ℕ) → (t ≡ true → unsigned_abs x ≤ most) → unsigned_abs (cond t x (pos 0)) ≤ most
masked_size true x most h = h refl
masked_size false x most h = omega arith

pub not_within : (count s b r : ℕ) → Outside count s b r → within count s b r ≡ false
not_within count s b r =
    ⊎_elim (λ h. and_left _ _ (le-ltb s count h))
    (λ h. and_right (nat_lt s count) _ (⊎_elim (λ h₁. and_left _ _ (le-ltb b 4 h₁)) (λ h₂. and_right (nat_lt b 4) _ (le-ltb r 121 h₂)) h))

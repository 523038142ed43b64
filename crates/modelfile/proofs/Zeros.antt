-- Tables of zeros are sound.
use Rattle.std.proofs.Common.{◌≡◌, ℕ, zero, suc, Bool, true, leb, List, [], ◌∷◌, ◌++◌, map, replicate, ℤ, pos, nat_abs, sym, refl, ap, ◌∙◌, subst, arith}
use lib.ListN.{length-replicate}
use Rattle.std.proofs.lemmas.Bool.{le-leb}
use Rattle.models.specs.Sound.{Ranges}
use Rattle.models.specs.SoundLaws.{AllTrue}
use Rattle.models.specs.Tables.{Tables}
use Rattle.models.specs.Table.{table, TableSound}
use Rattle.modelfile.specs.Default.{zero_table}

all_append : (us vs : List Bool) → AllTrue us → AllTrue vs → AllTrue (us ++ vs)
all_append [] vs h g k = g k
all_append (u ∷ us) vs h g zero = h zero
all_append (u ∷ us) vs h g (suc k) = all_append us vs (λ j. h (suc j)) g k

copies_pass : {X : Type 0} (test : X → Bool) (x : X) → test x ≡ true → (n : ℕ) → AllTrue (map test (replicate n x))
copies_pass test x t zero k = refl
copies_pass test x t (suc n) zero = t
copies_pass test x t (suc n) (suc k) = copies_pass test x t n k

-- 1 set and 20 scenarios of these numbers
abbrev pub of_lists : List ℕ → List ℕ → List ℤ → Tables
of_lists rs ts cs = record { sets = 1; scenarios = 20; rates = rs; ticks = ts; changes = cs }

zeros_in_range : (limit a c : ℕ) → Ranges limit (of_lists (replicate a 0) (replicate a 0) (replicate c (pos 0)))
zeros_in_range limit a c =
    all_append _ _ (copies_pass (λ x. leb x 200000) 0 (le-leb 0 200000 (omega arith)) a)
    (all_append _ _ (copies_pass (λ x. leb x 100000) 0 (le-leb 0 100000 (omega arith)) a)
    (copies_pass (λ z. leb (nat_abs z) limit) (pos 0) (le-leb 0 limit (omega arith)) c))

all_zeros : (a c : ℕ) → a ≡ 484 → c ≡ 9680 → TableSound (of_lists (replicate a 0) (replicate a 0) (replicate c (pos 0)))
all_zeros a c h k = (
  (omega arith, omega arith, omega arith, omega arith),
  (length-replicate a 0 ∙ h, length-replicate a 0 ∙ h, length-replicate c (pos 0) ∙ k),
  zeros_in_range 2000000 a c,
)

module _ (rs ts : List ℕ) (cs : List ℤ) (r : rs ≡ replicate 484 0) (t : ts ≡ replicate 484 0) (z : cs ≡ replicate 9680 (pos 0)) where
  are_zeros : of_lists rs ts cs ≡ of_lists (replicate 484 0) (replicate 484 0) (replicate 9680 (pos 0))
  are_zeros =
      ap (λ u. of_lists u ts cs) r
      ∙ (ap (λ u. of_lists (replicate 484 0) u cs) t ∙ ap (λ u. of_lists (replicate 484 0) (replicate 484 0) u) z)

  pub zeros_sound : TableSound (of_lists rs ts cs)
  zeros_sound = subst TableSound (sym are_zeros) (all_zeros 484 9680 refl refl)

  pub zeros_are : table (of_lists rs ts cs) ≡ zero_table
  unfolding zero_table
  zeros_are = ap table are_zeros

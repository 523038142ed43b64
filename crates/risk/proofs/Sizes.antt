-- How far from 0 a product and a negation are.
use Rattle.std.proofs.Common.{◌≡◌, ℕ, zero, suc, ◌*◌, ◌≤◌, ℤ, pos, negsuc, ◌*ℤ◌, neg_ℤ, nat_abs, refl, ap, ◌∙◌, mul-le-mul, arith, w32, w64, SFits, to_z, of_z}
use lib.IntN.{pos-*ℤ-negsuc}
use Rattle.std.proofs.lemmas.Int.{to_z-of_z, to_z_pos}
use Rattle.risk.proofs.Signs.{fits_money}

pub size_neg : (z : ℤ) → nat_abs (neg_ℤ z) ≡ nat_abs z
size_neg (pos zero) = refl
size_neg (pos (suc n)) = refl
size_neg (negsuc n) = refl

pub size_times : (n : ℕ) (z : ℤ) → nat_abs (pos n *ℤ z) ≡ n * nat_abs z
size_times n (pos k) = refl
size_times n (negsuc k) = rw (pos-*ℤ-negsuc n k) (size_neg (pos (n * suc k)))

pub fits_32 : (z : ℤ) → nat_abs z ≤ 2000000 → SFits w32 z
fits_32 (pos n) h = record { sfits = omega arith }
fits_32 (negsuc n) h = record { sfits = omega arith }

pub times_most : (n : ℕ) (z : ℤ) → n ≤ 1000000 → nat_abs (pos n *ℤ z) ≤ 1000000 * nat_abs z
times_most n z h = let same : nat_abs z ≤ nat_abs z = omega arith in rw (size_times n z) (mul-le-mul h same)

-- what fits 32 bits
size_32 : (z : ℤ) → SFits w32 z → nat_abs z ≤ 2147483648
size_32 (pos n) k = let s = k.sfits in omega (arith, s)
size_32 (negsuc n) k = let s = k.sfits in omega (arith, s)

pub product_most : (n : ℕ) (z : ℤ) → n ≤ 1000000 → SFits w32 z → nat_abs (pos n *ℤ z) ≤ 2147483648000000
product_most n z h k = omega (arith, times_most n z h, size_32 z k)

pub product_fits : (n : ℕ) (z : ℤ) → n ≤ 1000000 → SFits w32 z → SFits w64 (pos n *ℤ z)
product_fits n z h k = fits_money _ (omega (arith, product_most n z h k))

-- the factors as the code has them, cast to 64 bits
pub cast_times : (n : ℕ) (z : ℤ) → n ≤ 1000000 → SFits w32 z → to_z w64 n *ℤ to_z w64 (of_z w64 (to_z w32 (of_z w32 z))) ≡ pos n *ℤ z
cast_times n z h k =
    let a = to_z_pos w64 n (omega arith) in
    let b = to_z-of_z w32 z k in
    let d = to_z-of_z w64 z (fits_money z (omega (arith, size_32 z k))) in
    simp (a, b, d)

-- a number of 32 bits, cast to 64
pub cast_wide : (z : ℤ) → SFits w32 z → to_z w64 (of_z w64 (to_z w32 (of_z w32 z))) ≡ z
cast_wide z k = ap (λ u. to_z w64 (of_z w64 u)) (to_z-of_z w32 z k) ∙ to_z-of_z w64 z (fits_money z (omega (arith, size_32 z k)))

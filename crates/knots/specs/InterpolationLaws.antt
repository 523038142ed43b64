-- A value between two knots lies between theirs. Assumes nothing.
--   size_neg, size_times       how far from 0 a negated number is, and a multiple
--   Toward, part_toward        a part of a difference lies between 0 and the difference
--   up_part, down_less, down_part   the same of a difference up, and of one down
--   toward_most, toward_above, interpolated_most, interpolated_above   so much of the way from low to high is as far from 0 as theirs at most, and not negative if they are not
--   by_place                   what is so at a low knot, and between two, is so of the value
--   value_most, value_above    the same of a value between two knots
--   product_most, thousandth_most   how far from 0 a shock times a tick value is, and a thousandth of that
use Rattle.std.specs.Prelude.{◌≡◌, ℕ, zero, suc, ◌-◌, ◌*◌, ◌/◌, ◌<◌, ◌≤◌, Bool, true, false, cond, ℤ, pos, negsuc, ◌+ℤ◌, ◌-ℤ◌, ◌*ℤ◌, neg_ℤ, ◌≤ℤ◌, ◌==◌, unsigned_abs, refl}
use Rattle.std.proofs.Common.{⊎_elim, div-lt_iff_lt-mul, mul-le-mul, mul-le-mul_right, mul_comm, arith}
use Rattle.std.proofs.Math.Nat.{div-le_of_le-mul, zero-div}
use Rattle.std.proofs.lemmas.Bool.{eqb-false}
use Rattle.std.proofs.lemmas.Int.{ints}
use Rattle.knots.specs.Knots.{knot, Neighbours}
use Rattle.knots.specs.Interpolation.{floor, interpolated, value_at}

pub size_neg : (z : ℤ) → unsigned_abs (neg_ℤ z) ≡ unsigned_abs z
size_neg (pos zero) = refl
size_neg (pos (suc n)) = refl
size_neg (negsuc n) = refl

pub size_times : (n : ℕ) (z : ℤ) → unsigned_abs (pos n *ℤ z) ≡ n * unsigned_abs z
size_times n (pos k) = refl
size_times n (negsuc k) = size_neg (pos (n * suc k))

-- s lies between 0 and z
abbrev pub Toward : ℤ → ℤ → Type 0
Toward (pos k) s = (pos 0 ≤ℤ s) × (s ≤ℤ pos k)
Toward (negsuc k) s = (negsuc k ≤ℤ s) × (s ≤ℤ pos 0)

up_part : (t d k : ℕ) → t ≤ d → Toward (pos k) (pos (t * k / d))
up_part t d k h =
    let most : t * k / d ≤ k = div-le_of_le-mul d (mul-le-mul_right k h) in
    (omega (arith, ints), omega (arith, ints))

-- x + 1 parts down, of at most d times k + 1
down_less : (x d k : ℕ) → suc x ≤ d * suc k → 1 ≤ d → x / d ≤ k
down_less x d k h some =
    let under : x < suc k * d = omega (arith, mul_comm d (suc k)) in
    let less : x / d < suc k = (div-lt_iff_lt-mul {k = d} {x = x} {y = suc k} some).1 under in
    omega arith

down_part : (n d k : ℕ) → n ≤ d * suc k → 1 ≤ d → Toward (negsuc k) (floor (neg_ℤ (pos n)) d)
down_part zero d k h some = let e : 0 / d ≡ 0 = zero-div d in rw e (omega (arith, ints), omega (arith, ints))
down_part (suc x) d k h some =
    let most = down_less x d k h some in
    (omega (arith, ints), omega (arith, ints))

pub part_toward : (t d : ℕ) (z : ℤ) → t ≤ d → 1 ≤ d → Toward z (floor (pos t *ℤ z) d)
part_toward t d (pos k) h some = up_part t d k h
part_toward t d (negsuc k) h some = down_part (t * suc k) d k (mul-le-mul_right (suc k) h) some

toward_most : (low high z s : ℤ) (most : ℕ) → z ≡ high -ℤ low → Toward z s → unsigned_abs low ≤ most → unsigned_abs high ≤ most → unsigned_abs (low +ℤ s) ≤ most
toward_most low high (pos k) s most e h a b = omega (arith, ints)
toward_most low high (negsuc k) s most e h a b = omega (arith, ints)

toward_above : (low high z s : ℤ) → z ≡ high -ℤ low → Toward z s → pos 0 ≤ℤ low → pos 0 ≤ℤ high → pos 0 ≤ℤ (low +ℤ s)
toward_above low high (pos k) s e h a b = omega (arith, ints)
toward_above low high (negsuc k) s e h a b = omega (arith, ints)

pub interpolated_most : (low high : ℤ) (t d most : ℕ) → t ≤ d → 1 ≤ d → unsigned_abs low ≤ most → unsigned_abs high ≤ most → unsigned_abs (interpolated low high t d) ≤ most
interpolated_most low high t d most h some a b = toward_most low high (high -ℤ low) _ most refl (part_toward t d (high -ℤ low) h some) a b

pub interpolated_above : (low high : ℤ) (t d : ℕ) → t ≤ d → 1 ≤ d → pos 0 ≤ℤ low → pos 0 ≤ℤ high → pos 0 ≤ℤ interpolated low high t d
interpolated_above low high t d h some a b = toward_above low high (high -ℤ low) _ refl (part_toward t d (high -ℤ low) h some) a b

module _ (low high : ℤ) (m p q : ℕ) (n : Neighbours m p q) where
  -- what is so at the low knot, and between the two, is so of the value
  by_place : (P : ℤ → Type 0) → P low → (m - knot p ≤ knot q - knot p → 1 ≤ knot q - knot p → P (interpolated low high (m - knot p) (knot q - knot p))) → P (value_at low high m p q)
  by_place P here there =
      let by : (b : Bool) → (p == q) ≡ b → P (cond b low (interpolated low high (m - knot p) (knot q - knot p))) =
      λ b. elim b as (λ v. (p == q) ≡ v → P (cond v low (interpolated low high (m - knot p) (knot q - knot p)))) [
        | true ↦ λ t. here
        | false ↦ λ t.
            let ne = eqb-false p q t in
            let apart : (knot p < m) × (m < knot q) = ⊎_elim (λ e. absurd (ne e)) (λ a. (a.1, a.2)) n.3 in
            there (omega arith) (omega arith)
      ]
      in
      by (p == q) refl

  pub value_most : (most : ℕ) → unsigned_abs low ≤ most → unsigned_abs high ≤ most → unsigned_abs (value_at low high m p q) ≤ most
  value_most most a b =
      by_place (λ z. unsigned_abs z ≤ most) a (λ h some. interpolated_most low high (m - knot p) (knot q - knot p) most h some a b)

  pub value_above : pos 0 ≤ℤ low → pos 0 ≤ℤ high → pos 0 ≤ℤ value_at low high m p q
  value_above a b = by_place (λ z. pos 0 ≤ℤ z) a (λ h some. interpolated_above low high (m - knot p) (knot q - knot p) h some a b)

pub product_most : (n : ℕ) (z : ℤ) → n ≤ 100000 → unsigned_abs z ≤ 20000 → unsigned_abs (pos n *ℤ z) ≤ 2000000000
product_most n z h k = rw (size_times n z) (mul-le-mul h k)

pub thousandth_most : (z : ℤ) → unsigned_abs z ≤ 2000000000 → unsigned_abs (floor z 1000) ≤ 2000000
thousandth_most (pos n) h = omega arith
thousandth_most (negsuc n) h = omega arith

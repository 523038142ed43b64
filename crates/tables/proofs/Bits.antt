-- Bits that are set: none in 0 alone.
-- or_zero: none in what two numbers set, exactly where none in either.
-- at_32, at_40, at_48: none in a number that is moved up by so many bits within 64, exactly where none in the number.
use Rattle.std.proofs.Common.{◌≡◌, ℕ, zero, suc, ◌*◌, ◌%◌, ◌^◌, ◌<◌, ◌==◌, ◌&&◌, refl, ap, rules, arith, bit_or}
use Rattle.std.specs.Int.Bits.{or_zero_l}
use Rattle.std.proofs.lemmas.Nat.{le_or_l}

zero_both : (a b : ℕ) → (a ≡ 0 → b ≡ 0) → (b ≡ 0 → a ≡ 0) → (a == 0) ≡ (b == 0)
zero_both zero zero there back = refl
zero_both zero (suc b) there back = absurd (omega (arith, there refl))
zero_both (suc a) zero there back = absurd (omega (arith, back refl))
zero_both (suc a) (suc b) there back = search rules

pub or_zero : (a b : ℕ) → (bit_or a b == 0) ≡ (a == 0 && b == 0)
or_zero zero b = ap (λ n. n == 0) (or_zero_l b)
or_zero (suc a) b = let le = le_or_l (suc a) b in grind (arith, le)

pub at_32 : (n : ℕ) → n < 2 ^ 32 → (n * 4294967296 % 18446744073709551616 == 0) ≡ (n == 0)
at_32 n small = zero_both _ n (λ e. omega arith) (λ e. omega arith)

pub at_40 : (n : ℕ) → n < 2 ^ 8 → (n * 1099511627776 % 18446744073709551616 == 0) ≡ (n == 0)
at_40 n small = zero_both _ n (λ e. omega arith) (λ e. omega arith)

pub at_48 : (n : ℕ) → n < 2 ^ 16 → (n * 281474976710656 % 18446744073709551616 == 0) ≡ (n == 0)
at_48 n small = zero_both _ n (λ e. omega arith) (λ e. omega arith)

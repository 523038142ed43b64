-- Signed sums: one more, and how far from 0.
use Rattle.std.proofs.Common.{◌≡◌, ℕ, ◌+◌, ◌*◌, ◌<◌, ◌≤◌, List, [], ◌∷◌, length, get_or, take, ℤ, pos, negsuc, ◌+ℤ◌, nat_abs, fold, sym, ap, ◌∙◌, arith, w64, SFits, to_z, of_z}
use Rattle.std.specs.List.{All}
use Rattle.std.proofs.lemmas.Int.{ints, to_z-of_z}
use Rattle.std.proofs.lemmas.Nat.{mul-le}
use Rattle.std.proofs.lemmas.List.Elements.{All-head, All-tail}
use Rattle.std.proofs.lemmas.List.Sums.{fold_more}
use Rattle.risk.specs.Signs.{signed_sum, gain_of, lost_of}

-- anything that far from 0 fits 64 bits
pub fits_money : (z : ℤ) → nat_abs z ≤ 1000000000000000000 → SFits w64 z
fits_money (pos n) h = record { sfits = omega arith }
fits_money (negsuc n) h = record { sfits = omega arith }

pub size_add : (x y : ℤ) → nat_abs (x +ℤ y) ≤ nat_abs x + nat_abs y
size_add x y = omega (arith, ints)

pub gain_le : (z : ℤ) → gain_of z ≤ nat_abs z
gain_le (pos n) = omega arith
gain_le (negsuc n) = omega arith

pub lost_le : (z : ℤ) → lost_of z ≤ nat_abs z
lost_le (pos n) = omega arith
lost_le (negsuc n) = omega arith

module _ {X : Type 0} (f : X → ℤ) where
  pub sum_next : (xs : List X) (i : ℕ) (d : X) (sum one : ℤ) → i < length xs → sum ≡ signed_sum f (take i xs) → one ≡ f (get_or xs i d) → sum +ℤ one ≡ signed_sum f (take (i + 1) xs)
  sum_next xs i d sum one within so_far is =
      ap (λ z. z +ℤ one) so_far
      ∙ ap (λ z. signed_sum f (take i xs) +ℤ z) is
      ∙ sym (fold_more (λ a x. a +ℤ f x) (pos 0) xs i d within)

  sum_from : (n : ℕ) (a : ℤ) (xs : List X) → All (λ x. nat_abs (f x) ≤ n) xs → nat_abs (fold (λ b x. b +ℤ f x) a xs) ≤ nat_abs a + n * length xs
  sum_from n a [] h = omega arith
  sum_from n a (x ∷ xs) h = omega (arith, sum_from n (a +ℤ f x) xs (All-tail (λ y. nat_abs (f y) ≤ n) x xs h), size_add a (f x), All-head (λ y. nat_abs (f y) ≤ n) x xs h)

  pub sum_most : (n : ℕ) (xs : List X) → All (λ x. nat_abs (f x) ≤ n) xs → nat_abs (signed_sum f xs) ≤ n * length xs
  sum_most n xs h = omega (arith, sum_from n (pos 0) xs h)

  -- a loop's step as the code has it: each of at most 64 terms is at most m from 0
  pub adds_signed : (m : ℕ) (xs : List X) (i : ℕ) (d : X) (sum one : ℤ) → m ≤ 20000000000000 → length xs ≤ 64 → i < length xs → sum ≡ signed_sum f (take i xs) → nat_abs sum ≤ i * m → one ≡ f (get_or xs i d) → nat_abs one ≤ m
      → (to_z w64 (of_z w64 (sum +ℤ to_z w64 (of_z w64 one))) ≡ signed_sum f (take (i + 1) xs)) × (nat_abs (to_z w64 (of_z w64 (sum +ℤ to_z w64 (of_z w64 one)))) ≤ (i + 1) * m)
  adds_signed m xs i d sum one most few within so_far small is near =
      let both = mul-le i m 64 20000000000000 (omega arith) most in
      let next : (i + 1) * m ≡ i * m + m = grind arith in
      let one-back = to_z-of_z w64 one (fits_money one (omega arith)) in
      let back = to_z-of_z w64 (sum +ℤ one) (fits_money (sum +ℤ one) (omega (arith, size_add sum one))) in
      (simp (one-back, back) (sum_next xs i d sum one within so_far is), simp (one-back, back) (omega (arith, size_add sum one)))

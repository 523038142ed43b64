-- A mark before it is divided: the part of a trade at a tick value, negated before or after.
use Rattle.std.proofs.Common.{◌≡◌, ℕ, zero, suc, ◌*◌, ◌≤◌, ℤ, pos, negsuc, ◌-ℤ◌, ◌*ℤ◌, neg_ℤ, nat_abs, refl, sym, ap, ◌∙◌, arith, w32, to_z, of_z}
use Rattle.std.proofs.Math.IntN.{negsuc-*ℤ-pos, neg_ℤ-neg_ℤ}
use Rattle.std.proofs.lemmas.Int.{to_z-of_z, to_z_pos, ints}
use Rattle.tables.specs.declared.codes.Side.{Side}
use Rattle.tables.specs.declared.codes.Side.TheVariants.{Pay, Receive}
use Rattle.risk.specs.Signs.{negated_for}
use Rattle.risk.proofs.Sizes.{fits_32}

neg_by : (z : ℤ) (k : ℕ) → neg_ℤ z *ℤ pos k ≡ neg_ℤ (z *ℤ pos k)
neg_by (pos zero) k = let nil : 0 * k ≡ 0 = omega arith in ap pos nil ∙ sym (ap (λ n. neg_ℤ (pos n)) nil)
neg_by (pos (suc a)) k = negsuc-*ℤ-pos a k
neg_by (negsuc a) k = sym (ap neg_ℤ (negsuc-*ℤ-pos a k) ∙ neg_ℤ-neg_ℤ (pos (suc a * k)))

pub negated_by : (s : Side) (z : ℤ) (k : ℕ) → negated_for Receive s z *ℤ pos k ≡ negated_for Receive s (z *ℤ pos k)
negated_by Pay z k = refl
negated_by Receive z k = neg_by z k

-- what lies between two rates, as the code has it
pub gap_is : (r f : ℕ) → r ≤ 200000 → f ≤ 200000 → to_z w32 (of_z w32 (to_z w32 r -ℤ to_z w32 f)) ≡ pos r -ℤ pos f
gap_is r f hr hf =
    let a = to_z_pos w32 r (omega arith) in
    let b = to_z_pos w32 f (omega arith) in
    let most : nat_abs (pos r -ℤ pos f) ≤ 2000000 = omega (arith, ints) in
    let back = to_z-of_z w32 (pos r -ℤ pos f) (fits_32 _ most) in
    simp (a, b, back)

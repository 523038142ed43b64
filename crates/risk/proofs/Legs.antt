-- A signed notional times a change.
use Rattle.std.proofs.Common.{◌≡◌, ℕ, zero, suc, ◌*◌, ℤ, pos, negsuc, ◌*ℤ◌, neg_ℤ, refl, sym, ap, ◌∙◌, arith}
use Rattle.std.proofs.Math.IntN.{zero-*ℤ, neg_ℤ-neg_ℤ}
use Rattle.tables.specs.declared.codes.Side.{Side}
use Rattle.tables.specs.declared.codes.Side.TheVariants.{Pay, Receive}
use Rattle.risk.specs.Signs.{negated_for}

negation_times : (n : ℕ) (z : ℤ) → neg_ℤ (pos n) *ℤ z ≡ neg_ℤ (pos n *ℤ z)
negation_times zero z = zero-*ℤ z ∙ sym (ap neg_ℤ (zero-*ℤ z))
negation_times (suc n) (pos k) = refl
negation_times (suc n) (negsuc k) = sym (neg_ℤ-neg_ℤ (pos (suc n * suc k)))

signed_whole : (s : Side) (n : ℕ) (z : ℤ) → negated_for Pay s (pos n) *ℤ z ≡ negated_for Pay s (pos n *ℤ z)
signed_whole Pay n z = negation_times n z
signed_whole Receive n z = refl

pub signed_times : (s : Side) (n : ℕ) (z : ℤ) → negated_for Pay s (pos n *ℤ pos 1) *ℤ z ≡ negated_for Pay s (pos n *ℤ z)
signed_times s n z = let one : n * 1 ≡ n = omega arith in ap (λ k. negated_for Pay s (pos k) *ℤ z) one ∙ signed_whole s n z

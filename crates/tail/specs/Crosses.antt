-- Ratios compared by cross multiplication.
-- cross_chain: they chain: what is at least the next is at least what comes after that.
use Rattle.std.specs.Prelude.{ℕ, ◌*◌, ◌<◌, ◌≤◌}
use Rattle.std.proofs.Common.{mul_right_comm, mul-le-mul_right, le_of_mul-le-mul_right, arith}

-- of a / b, c / d and e / f, each is at least the next
pub cross_chain : (a b c d e f : ℕ) → 0 < d → c * b ≤ a * d → e * d ≤ c * f → e * b ≤ a * f
cross_chain a b c d e f some h k =
    let p : e * d * b ≤ c * f * b = mul-le-mul_right b k in
    let q : c * b * f ≤ a * d * f = mul-le-mul_right f h in
    let all : e * b * d ≤ a * f * d = omega (arith, mul_right_comm e b d, mul_right_comm c f b, mul_right_comm a d f) in
    le_of_mul-le-mul_right {m = e * b} {n = a * f} {k = d} all some

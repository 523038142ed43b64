-- The band that a residual is in.
use Rattle.std.proofs.Common.{◌≡◌, ℕ, zero, suc, ◌<◌, ◌≤◌, ltb, true, false, List, [], ◌∷◌, get_or, ℤ, pos, ap, arith, w32, to_z, of_z}
use Rattle.std.proofs.lemmas.Bool.Decides.{nat_tests}
use Rattle.std.proofs.lemmas.Bool.{ltb-true, ltb-false}
use Rattle.std.specs.List.Sorted.{IsPartitionedBy, IsPartitionPoint}
use Rattle.std.proofs.lemmas.Int.{to_z-of_z}
use Rattle.risk.specs.Initial.{band_rate}
use Rattle.risk.proofs.Sizes.{fits_32}

-- the constants of the code
abbrev pub ends : List ℕ
ends = 36 ∷ 60 ∷ []

abbrev pub rates : List ℤ
rates = pos 50000 ∷ pos 100000 ∷ pos 175000 ∷ []

-- the ends below a residual stand first
pub ends_part : (r : ℕ) → IsPartitionedBy (λ e. ltb e r) ends
ends_part r zero zero d h k is = is
ends_part r zero (suc zero) d h k is = grind (arith, nat_tests)
ends_part r (suc zero) (suc zero) d h k is = is
ends_part r (suc i) zero d h k is = absurd (omega arith)
ends_part r (suc (suc i)) (suc zero) d h k is = absurd (omega arith)
ends_part r i (suc (suc j)) d h k is = absurd (omega arith)

pub band_at : (r b : ℕ) → IsPartitionPoint (λ e. ltb e r ≡ true) (λ e. ltb e r ≡ false) ends b → b ≤ 2 → get_or rates b (pos 0) ≡ pos (band_rate r)
band_at r zero h k =
    let below : r ≤ 36 = ltb-false 36 r (h.1 0 0 (omega arith) (omega arith)) in
    let is : 50000 ≡ band_rate r = grind (arith, nat_tests) in
    ap pos is
band_at r (suc zero) h k =
    let above : 36 < r = ltb-true 36 r (h.0 0 0 (omega arith) (omega arith)) in
    let below : r ≤ 60 = ltb-false 60 r (h.1 1 0 (omega arith) (omega arith)) in
    let is : 100000 ≡ band_rate r = grind (arith, nat_tests) in
    ap pos is
band_at r (suc (suc zero)) h k =
    let above : 60 < r = ltb-true 60 r (h.0 1 0 (omega arith) (omega arith)) in
    let is : 175000 ≡ band_rate r = grind (arith, nat_tests) in
    ap pos is
band_at r (suc (suc (suc b))) h k = absurd (omega arith)

pub band_fits : (r : ℕ) → to_z w32 (of_z w32 (pos (band_rate r))) ≡ pos (band_rate r)
band_fits r =
    let most : band_rate r ≤ 2000000 = grind (arith, nat_tests) in
    to_z-of_z w32 (pos (band_rate r)) (fits_32 (pos (band_rate r)) most)

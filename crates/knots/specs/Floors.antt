-- The floor of a quotient. Assumes nothing.
--   floor_down   it is the quotient rounded down, also below zero
use Rattle.std.proofs.Common.{◌≡◌, ℕ, suc, ◌+◌, ◌*◌, ◌/◌, ◌%◌, ◌<◌, ◌≤◌, ℤ, pos, negsuc, ◌*ℤ◌, neg_ℤ, mod-lt, mul-suc, arith}
use native.Mathlib.Nat.{div-add-mod}
use lib.IntN.{pos-*ℤ-negsuc}
use Rattle.std.proofs.lemmas.Int.{ints}
use Rattle.knots.specs.Interpolation.{floor, RoundedDown}

pub floor_down : (z : ℤ) (d : ℕ) → 1 ≤ d → RoundedDown z d (floor z d)
floor_down (pos a) d some =
    let parts = div-add-mod a d in
    let less : a % d < d = mod-lt a {m = d} some in
    (omega (arith, ints), omega (arith, ints))
floor_down (negsuc a) d some =
    let parts = div-add-mod a d in
    let less : a % d < d = mod-lt a {m = d} some in
    let more : d * suc (a / d) ≡ d * (a / d) + d = mul-suc d (a / d) in
    let down : pos d *ℤ negsuc (a / d) ≡ neg_ℤ (pos (d * suc (a / d))) = pos-*ℤ-negsuc d (a / d) in
    (omega (arith, ints), omega (arith, ints))
